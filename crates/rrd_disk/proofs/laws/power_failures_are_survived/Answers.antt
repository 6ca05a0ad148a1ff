use Rattle.rrd_disk.proofs.Common.{failure_survived}
use Rattle.rrd_disk.proofs.laws.power_failures_are_survived.Goals as goal

pub returns : goal.returns
returns c = failure_survived c.file_laws.ensures
