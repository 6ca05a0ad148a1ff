use Rattle.rrd_disk.proofs.Common.{failed, part_fails, arith, common_steps}
use Rattle.rrd_disk.proofs.file_bytes.FileBytesBytes.write.Goals as goal

pub returns-in_err-put_all-clause-does : goal.returns-in_err-put_all-clause-does
returns-in_err-put_all-clause-does g c = grind (arith, common_steps, failed, part_fails)
