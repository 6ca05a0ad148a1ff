use Rattle.rrd_disk.proofs.Common.{failed, counts_steps, rests_steps, arith, common_steps}
use Rattle.rrd_disk.proofs.file_bytes.FileBytesBytes.len.Goals as goal

pub returns-in_err-file_length : goal.returns-in_err-file_length
returns-in_err-file_length g c = grind (arith, common_steps, failed, rests_steps)

pub returns : goal.returns
returns g c = grind (arith, common_steps, counts_steps)
