use Rattle.rrd_base.proofs.Common.{refl, sym, ◌∙◌, ap, ◌++◌, List, [], ◌∷◌, min, drop, replicate, length, subst, arith, length-append, length-drop, Cell, HasWidth, HasWidth-append, HasWidth-drop, keep_last, push_more, push_all}
use Rattle.rrd_base.proofs.rra.push_times.Goals as goal

pub loop-i-preserved : goal.loop-i-preserved
loop-i-preserved c =
    let was = c.loop-i.invariant in
    let row = c.args.row.now in
    let more : List (List Cell) = row ∷ [] in
    record {
      rows = c.push_row.ensures.rows ∙ ap (λ z. drop 1 (z ++ row ∷ [])) was.rows ∙ push_more c.args.rows.now row c.loop-i._i;
      count = ap length c.push_row.ensures.rows ∙ omega (arith, length-drop 1 (c.loop-i.rows ++ more), length-append c.loop-i.rows more) ∙ was.count;
      wide = subst (HasWidth (length row)) (sym c.push_row.ensures.rows) (HasWidth-drop (length row) 1 (c.loop-i.rows ++ more) (HasWidth-append (length row) c.loop-i.rows more was.wide (refl, tt)));
      turns = omega (arith, was.turns, c.push_row.ensures.turns);
    }

pub returns-clause-rows : goal.returns-clause-rows
returns-clause-rows c =
    let was = c.loop-i.invariant in
    let rows = c.args.rows.now in
    cc (was.rows, ap (λ k. keep_last (length rows) (rows ++ replicate k c.args.row.now)) {x = c.loop-i._i} {y = min c.args.times (length rows)} (omega arith), push_all rows c.args.row.now c.args.times)
