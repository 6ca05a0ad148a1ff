use Rattle.rrd_disk.proofs.Common.{arith, mark_shown, common_steps}
use Rattle.rrd_disk.proofs.file_bytes.FileBytes.is_marked.Goals as goal

pub returns-clause-tells : goal.returns-clause-tells
returns-clause-tells g c = grind (arith, common_steps, mark_shown)
