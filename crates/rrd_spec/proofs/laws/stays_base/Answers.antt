use Rattle.rrd_spec.proofs.Moving.{stays_base}
use Rattle.rrd_spec.proofs.laws.stays_base.Goals as goal

pub returns : goal.returns
returns c = stays_base
