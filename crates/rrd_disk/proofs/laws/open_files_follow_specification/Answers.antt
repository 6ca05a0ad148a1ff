use Rattle.rrd_disk.proofs.Common.{open_files_follow}
use Rattle.rrd_disk.proofs.laws.open_files_follow_specification.Goals as goal

pub returns : goal.returns
returns c = open_files_follow c.file_laws.ensures c.runs_follow_specification.ensures.all
