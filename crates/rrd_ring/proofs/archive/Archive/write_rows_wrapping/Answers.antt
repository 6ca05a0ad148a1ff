use Rattle.rrd_ring.proofs.Common.{◌∙◌, ◌*◌, List, ap, arith, length, replicate, sym, Cell, Unknown, width, with_rows}
use Rattle.rrd_ring.proofs.archive.Archive.write_rows_wrapping.Goals as goal

pub put_rows-requires-clause-there : goal.put_rows-requires-clause-there
put_rows-requires-clause-there c = omega (arith, c.requires.there, ap length c.begin_at.ensures)

pub put_rows-requires-clause-few : goal.put_rows-requires-clause-few
put_rows-requires-clause-few c = omega (arith, c.requires.few, ap length c.begin_at.ensures)

pub put_rows-requires-clause-one_each : goal.put_rows-requires-clause-one_each
put_rows-requires-clause-one_each c = omega (arith, c.requires.one_each, ap (λ (rows : List (List Cell)). c.args.count * width rows) c.begin_at.ensures)

pub returns-then-are_unknown : goal.returns-then-are_unknown
returns-then-are_unknown c =
    c.clear_rows_wrapping.ensures
    ∙ ap (λ (cells : List Cell). with_rows c.args.count (width c.args.self.now) c.args.self.now c.args.i cells)
    (ap (λ n. replicate n Unknown) (sym c.requires.one_each) ∙ sym (c.are_unknown.ensures c.if-are_unknown.true))

pub returns-else-are_unknown : goal.returns-else-are_unknown
returns-else-are_unknown c = c.put_rows.ensures ∙ ap (λ (rows : List (List Cell)). with_rows c.args.count (width rows) rows c.args.i c.args.cells.now) c.begin_at.ensures
