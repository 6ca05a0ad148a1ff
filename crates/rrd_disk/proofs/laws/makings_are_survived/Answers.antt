use Rattle.rrd_disk.proofs.Common.{making_survived}
use Rattle.rrd_disk.proofs.laws.makings_are_survived.Goals as goal

pub returns : goal.returns
returns c = making_survived c.file_laws.ensures
