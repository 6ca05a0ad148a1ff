use Rattle.std.proofs.lemmas.Grind.{common_steps}
use Rattle.rrd_ring.proofs.Common.{arith, part_copied}
use Rattle.rrd_ring.proofs.ring.part_from.Goals as goal

pub returns-clause-cells : goal.returns-clause-cells
returns-clause-cells c = grind (arith, common_steps, part_copied)
