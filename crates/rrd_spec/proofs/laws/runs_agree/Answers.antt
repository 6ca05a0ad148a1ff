use Rattle.rrd_spec.proofs.Runs.{runs_agree}
use Rattle.rrd_spec.proofs.laws.runs_agree.Goals as goal

pub returns : goal.returns
returns c = runs_agree
