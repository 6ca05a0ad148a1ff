use Rattle.rrd_spec.proofs.Accepted.{accepted_passes}
use Rattle.rrd_spec.proofs.laws.accepted_passes.Goals as goal

pub returns : goal.returns
returns c = accepted_passes
