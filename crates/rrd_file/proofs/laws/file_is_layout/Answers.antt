use Rattle.rrd_file.proofs.Common.{file_is_layout}
use Rattle.rrd_file.proofs.laws.file_is_layout.Goals as goal

pub returns : goal.returns
returns c = file_is_layout
