use Rattle.rrd_fixed.proofs.Common.{arith, common_steps, fraction_below}
use Rattle.rrd_fixed.proofs.number.read_fraction.Goals as goal

pub returns-clause-small : goal.returns-clause-small
returns-clause-small c = grind (arith, common_steps, fraction_below)
