use Rattle.std.proofs.lemmas.Grind.{common_steps}
use Rattle.rrd_ring.proofs.Common.{vec_len, arith, append_assoc, take_all}
use Rattle.rrd_ring.proofs.ring.push_part.Goals as goal

pub returns-clause-items : goal.returns-clause-items
returns-clause-items c = grind (arith, common_steps, vec_len, take_all, append_assoc)
