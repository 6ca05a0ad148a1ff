use Rattle.rrd_change.proofs.Common.{refl, mix}
use Rattle.rrd_change.proofs.checksum.mix.Goals as goal

pub returns : goal.returns
unfolding mix
returns c = refl
