use Rattle.rrd_disk.proofs.Common.{IsTrue, world_after, survives, surviving}
use Rattle.rrd_disk.proofs.laws.open_files_survive_power_failures.Goals as goal

pub returns : goal.returns
returns c = λ P d w syncs found events safe.
    surviving c.file_laws.ensures (λ b. IsTrue (P b)) (world_after d w events) (survives (λ b. IsTrue (P b)) found (world_after d w events) safe.1)
