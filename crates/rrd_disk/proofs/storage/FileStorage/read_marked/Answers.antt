use Rattle.rrd_disk.proofs.Common.{standing_loaded, fault_loaded, arith, common_steps}
use Rattle.rrd_disk.proofs.storage.FileStorage.read_marked.Goals as goal

pub returns-in-Ok-clause-loads : goal.returns-in-Ok-clause-loads
returns-in-Ok-clause-loads g c = grind (arith, common_steps, standing_loaded)

pub returns-in-Err-clause-loads : goal.returns-in-Err-clause-loads
returns-in-Err-clause-loads g c = grind (arith, common_steps, fault_loaded)
