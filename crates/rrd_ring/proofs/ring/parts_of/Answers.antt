use Rattle.std.proofs.lemmas.Grind.{common_steps}
use Rattle.rrd_ring.proofs.Common.{arith, add-mul, cells_le}
use Rattle.rrd_ring.proofs.ring.parts_of.Goals as goal

pub returns-clause-before_end : goal.returns-clause-before_end
returns-clause-before_end c = grind (arith, common_steps, add-mul, cells_le)

pub returns-clause-all : goal.returns-clause-all
returns-clause-all c = grind (arith, common_steps, add-mul)
