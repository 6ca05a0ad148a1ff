use Rattle.rrd_ring.proofs.Common.{◌≡◌, ◌∙◌, ap, ◌*◌, ◌-◌, ◌%◌, List, [], length, replicate, arith, mod_below, Cell, Unknown, ring_rows, with_unwritten, ring_unknown}
use Rattle.rrd_ring.proofs.archive.Archive.new_filled_from.Goals as goal

pub returns : goal.returns
returns c =
    let rows = c.args.rows in
    let sources = c.args.sources in
    let all = rows * sources in
    let empty : List Cell = [] in
    let none : all - length empty ≡ all = omega arith in
    let index = (rows - c.args.first) % rows in
    ap (λ n. ring_rows rows sources n (with_unwritten all c.in_ok-cells.cells.items)) c.wrap.ensures.index
    ∙ ap (λ (xs : List Cell). ring_rows rows sources index (with_unwritten all xs)) c.in_ok-cells.ensures.items
    ∙ ap (λ n. ring_rows rows sources index (replicate n Unknown)) none
    ∙ ring_unknown rows sources index (mod_below (rows - c.args.first) rows (omega (arith, c.requires.there)))
