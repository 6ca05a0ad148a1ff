use Rattle.rrd_file.proofs.Common.{file_begins}
use Rattle.rrd_file.proofs.laws.file_begins.Goals as goal

pub returns : goal.returns
returns c = file_begins
