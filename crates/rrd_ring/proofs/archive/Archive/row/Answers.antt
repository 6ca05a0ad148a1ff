use Rattle.std.proofs.lemmas.Grind.{common_steps}
use Rattle.rrd_ring.proofs.Common.{arith, nth_row-ring_rows, row_count}
use Rattle.rrd_ring.proofs.archive.Archive.row.Goals as goal

pub index_of-index-requires-clause-there : goal.index_of-index-requires-clause-there
index_of-index-requires-clause-there c = omega (arith, c.requires, row_count c.self.invariant.0 c.self.view_is)

pub returns : goal.returns
returns c = grind (arith, common_steps, row_count c.self.invariant.0 c.self.view_is, nth_row-ring_rows)
