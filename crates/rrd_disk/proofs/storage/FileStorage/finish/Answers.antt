use Rattle.rrd_disk.proofs.Common.{finished, as_left, arith, common_steps}
use Rattle.rrd_disk.proofs.storage.FileStorage.finish.Goals as goal

pub returns-in-Kept-clause-same : goal.returns-in-Kept-clause-same
returns-in-Kept-clause-same g c =
    finished c.args.self.now.found c.in-Kept.field-0 c.in-Kept.field-1 c.in-Kept.is (g.D.Disk.events c.args.self.now.bytes.disk) (g.D.Disk.events c.settle.new.self.bytes.disk) c.settle.ensures.prepares

pub returns-in-Kept-clause-power : goal.returns-in-Kept-clause-power
returns-in-Kept-clause-power g c = grind (arith, common_steps, as_left)

pub returns-in_default-clause-power : goal.returns-in_default-clause-power
returns-in_default-clause-power g c = grind (arith, common_steps, as_left)
