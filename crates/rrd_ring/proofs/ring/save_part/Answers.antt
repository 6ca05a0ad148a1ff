use Rattle.std.proofs.lemmas.Grind.{common_steps}
use Rattle.rrd_ring.proofs.Common.{arith, length-append, clones_same, append_assoc, take_all}
use Rattle.rrd_ring.proofs.ring.save_part.Goals as goal

pub returns-clause-items : goal.returns-clause-items
returns-clause-items c = grind (arith, common_steps, take_all, length-append, clones_same, append_assoc)
