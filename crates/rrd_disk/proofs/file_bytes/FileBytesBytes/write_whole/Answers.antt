use Rattle.rrd_disk.proofs.Common.{whole_does, arith, common_steps}
use Rattle.rrd_disk.proofs.file_bytes.FileBytesBytes.write_whole.Goals as goal

pub returns-then-not-is_empty : goal.returns-then-not-is_empty
returns-then-not-is_empty g c = grind (arith, common_steps, whole_does)
