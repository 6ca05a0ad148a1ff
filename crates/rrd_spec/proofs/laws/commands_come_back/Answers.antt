use Rattle.rrd_spec.proofs.Undoing.{comes_back}
use Rattle.rrd_spec.proofs.laws.commands_come_back.Goals as goal

pub returns : goal.returns
returns c = comes_back
