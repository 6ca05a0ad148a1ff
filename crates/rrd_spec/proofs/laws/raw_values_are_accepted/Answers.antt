use Rattle.rrd_spec.proofs.Staying.{raws_accepted}
use Rattle.rrd_spec.proofs.laws.raw_values_are_accepted.Goals as goal

pub returns : goal.returns
returns c = raws_accepted
