use Rattle.rrd_file.proofs.Common.{ap, length, arith, file_end}
use Rattle.rrd_file.proofs.end.file_end.Goals as goal

pub returns : goal.returns
unfolding file_end
returns c = omega (arith, ap length c.after_database.ensures)
