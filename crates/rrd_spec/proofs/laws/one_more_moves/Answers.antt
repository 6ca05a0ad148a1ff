use Rattle.rrd_spec.proofs.Moving.{moves}
use Rattle.rrd_spec.proofs.laws.one_more_moves.Goals as goal

pub returns : goal.returns
returns c = moves
