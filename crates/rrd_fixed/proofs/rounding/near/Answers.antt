use Rattle.rrd_fixed.proofs.Common.{arith, to_z, of_z, near_limit_of, common_steps}
use Rattle.std.proofs.lemmas.Int.{to_z-of_z}
use Rattle.rrd_fixed.proofs.rounding.near.Goals as goal

-- each number on the way fits 128 bits, so it comes back from its bits as it was
pub returns-clause-value : goal.returns-clause-value
returns-clause-value c = grind (arith, common_steps, to_z-of_z)

pub returns-clause-limit : goal.returns-clause-limit
returns-clause-limit c = grind (arith, common_steps, to_z, of_z, returns-clause-value, near_limit_of)
