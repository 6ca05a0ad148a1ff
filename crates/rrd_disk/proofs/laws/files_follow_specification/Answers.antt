use Rattle.rrd_disk.proofs.Common.{files_follow}
use Rattle.rrd_disk.proofs.laws.files_follow_specification.Goals as goal

pub returns : goal.returns
returns c = files_follow c.file_laws.ensures c.runs_follow_specification.ensures.all
