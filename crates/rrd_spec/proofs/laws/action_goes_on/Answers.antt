use Rattle.rrd_spec.proofs.Runs.{step_stands}
use Rattle.rrd_spec.proofs.laws.action_goes_on.Goals as goal

pub returns : goal.returns
returns c = step_stands
