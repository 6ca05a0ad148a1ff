use Rattle.std.proofs.lemmas.Grind.{common_steps}
use Rattle.rrd_ring.proofs.Common.{arith, never_written_rows, row_count, row_width}
use Rattle.rrd_ring.proofs.archive.Archive.never_written_count.Goals as goal

pub returns-clause-few : goal.returns-clause-few
returns-clause-few c = omega (arith, row_count c.self.invariant.0 c.self.view_is)

pub returns-clause-unknown : goal.returns-clause-unknown
returns-clause-unknown c = grind (arith, common_steps, never_written_rows c.self.invariant.0 c.self.view_is c.len.ensures c.rows_written-written.ensures.written, row_width c.self.invariant.0 c.self.view_is)
