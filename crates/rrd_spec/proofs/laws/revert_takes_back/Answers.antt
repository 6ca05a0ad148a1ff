use Rattle.rrd_spec.proofs.Fitting.{revert_takes_back}
use Rattle.rrd_spec.proofs.laws.revert_takes_back.Goals as goal

pub returns : goal.returns
returns c = revert_takes_back
