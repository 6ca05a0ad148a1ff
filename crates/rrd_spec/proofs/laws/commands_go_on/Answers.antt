use Rattle.rrd_spec.proofs.Runs.{commands_go_on}
use Rattle.rrd_spec.proofs.laws.commands_go_on.Goals as goal

pub returns : goal.returns
returns c = commands_go_on
