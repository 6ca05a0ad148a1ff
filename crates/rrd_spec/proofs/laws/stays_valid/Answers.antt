use Rattle.rrd_spec.proofs.Staying.{stays_valid}
use Rattle.rrd_spec.proofs.laws.stays_valid.Goals as goal

pub returns : goal.returns
returns c = stays_valid
