use Rattle.std.proofs.lemmas.Grind.{common_steps}
use Rattle.rrd_ring.proofs.Common.{◌+◌, arith, add-mul, cells_le, rows_len, rows_run}
use Rattle.rrd_ring.proofs.dropped.Dropped.contiguous_rows.Goals as goal

pub cells_of-start-requires-clause-few_rows : goal.cells_of-start-requires-clause-few_rows
cells_of-start-requires-clause-few_rows c = omega (arith, c.requires.there, c.self.invariant.few_rows, rows_len _ _ _ _ c.self.view_is)

pub cells_of-requires-clause-few_rows : goal.cells_of-requires-clause-few_rows
cells_of-requires-clause-few_rows c = omega (arith, c.requires.there, c.self.invariant.few_rows, rows_len _ _ _ _ c.self.view_is)

pub slice_bounds-result-end : goal.slice_bounds-result-end
slice_bounds-result-end c = grind (arith, common_steps, rows_len, add-mul c.args.first c.args.most, cells_le (c.args.first + c.args.most))

pub returns-clause-cells : goal.returns-clause-cells
returns-clause-cells c = grind (arith, common_steps, rows_len, rows_run)
