use Rattle.std.proofs.lemmas.Grind.{common_steps}
use Rattle.rrd_ring.proofs.Common.{arith, forgotten, never_written}
use Rattle.rrd_ring.proofs.ring.forget.Goals as goal

pub returns-then-start-end-clause-cells : goal.returns-then-start-end-clause-cells
returns-then-start-end-clause-cells c = grind (arith, common_steps, forgotten)

pub returns-else-start-end-clause-cells : goal.returns-else-start-end-clause-cells
returns-else-start-end-clause-cells c = grind (arith, common_steps, never_written)
