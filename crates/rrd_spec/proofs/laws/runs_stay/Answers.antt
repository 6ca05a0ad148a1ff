use Rattle.rrd_spec.proofs.Fitting.{runs_stay}
use Rattle.rrd_spec.proofs.laws.runs_stay.Goals as goal

pub returns : goal.returns
returns c = runs_stay
