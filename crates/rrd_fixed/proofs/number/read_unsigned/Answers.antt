use Rattle.rrd_fixed.proofs.Common.{unsigned_plain, unsigned_pointed, arith, common_steps}
use Rattle.rrd_fixed.proofs.Writings.{take_rest}
use Rattle.rrd_fixed.proofs.number.read_unsigned.Goals as goal

pub returns-in-None-clause-value : goal.returns-in-None-clause-value
returns-in-None-clause-value c = grind (arith, common_steps, unsigned_plain)

pub returns-in-Some-clause-value : goal.returns-in-Some-clause-value
returns-in-Some-clause-value c = grind (arith, common_steps, take_rest, unsigned_pointed)
