use Rattle.rrd_fold.proofs.AdditionLemmas.{made_by_two}
use Rattle.rrd_fold.proofs.laws.made_by_two_additions.Goals as goal

pub returns : goal.returns
returns c = made_by_two
