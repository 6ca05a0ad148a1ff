use Rattle.rrd_disk.proofs.Common.{programs_follow}
use Rattle.rrd_disk.proofs.laws.programs_follow_specification.Goals as goal

pub returns : goal.returns
returns c = programs_follow c.file_laws.ensures c.runs_follow_specification.ensures.all
