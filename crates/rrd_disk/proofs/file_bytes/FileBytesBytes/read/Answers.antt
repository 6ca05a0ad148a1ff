use Rattle.rrd_disk.proofs.Common.{reads_does, arith, common_steps}
use Rattle.rrd_disk.proofs.file_bytes.FileBytesBytes.read.Goals as goal

pub returns : goal.returns
returns g c = grind (arith, common_steps, reads_does)
