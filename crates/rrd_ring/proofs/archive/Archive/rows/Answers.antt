use Rattle.rrd_ring.proofs.Common.{sym, row_count}
use Rattle.rrd_ring.proofs.archive.Archive.rows.Goals as goal

pub returns-clause-count : goal.returns-clause-count
returns-clause-count c = sym (row_count c.self.invariant.0 c.self.view_is)
