use Rattle.rrd_fixed.proofs.Common.{arith, value_all}
use Rattle.rrd_fixed.proofs.number.read_short.Goals as goal

pub returns-clause-small : goal.returns-clause-small
returns-clause-small c = rw c.read_front-at.ensures.value (value_all c.args.bytes.now c.read_front-at.result.0 (omega arith) c.read_front-at.ensures.digits)
