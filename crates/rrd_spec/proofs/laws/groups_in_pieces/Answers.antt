use Rattle.rrd_spec.proofs.GroupLemmas.{goes_on}
use Rattle.rrd_spec.proofs.laws.groups_in_pieces.Goals as goal

pub returns : goal.returns
returns g c = goes_on
