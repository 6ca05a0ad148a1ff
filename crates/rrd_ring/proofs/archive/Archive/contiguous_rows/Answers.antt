use Rattle.std.proofs.lemmas.Grind.{common_steps}
use Rattle.rrd_ring.proofs.Common.{arith, ring_run, ring_le, row_count}
use Rattle.rrd_ring.proofs.archive.Archive.contiguous_rows.Goals as goal

pub index_of-index-requires-clause-there : goal.index_of-index-requires-clause-there
index_of-index-requires-clause-there c = omega (arith, c.requires.there, row_count c.self.invariant.0 c.self.view_is)

pub run_from-count-requires-clause-few : goal.run_from-count-requires-clause-few
run_from-count-requires-clause-few c = omega (arith, c.requires.there, row_count c.self.invariant.0 c.self.view_is, c.self.invariant.0.ring.few_rows)

pub returns-clause-cells : goal.returns-clause-cells
returns-clause-cells c = grind (arith, common_steps, ring_le, row_count c.self.invariant.0 c.self.view_is, ring_run)
