use Rattle.rrd_disk.proofs.Common.{sound_as, closed_making, closed_safely, failed_making, failed_safely, arith, common_steps}
use Rattle.rrd_disk.proofs.storage.FileStorage.write.Goals as goal

pub returns-in-Ok-Closed-clause-writes : goal.returns-in-Ok-Closed-clause-writes
returns-in-Ok-Closed-clause-writes g c = grind (arith, common_steps, sound_as)

pub returns-in-Ok-Closed-clause-power : goal.returns-in-Ok-Closed-clause-power
returns-in-Ok-Closed-clause-power g c = rw c.let_go.ensures.disk c.put-ended.ensures.power

pub returns-in-Ok-Closed-clause-safe : goal.returns-in-Ok-Closed-clause-safe
returns-in-Ok-Closed-clause-safe g c = rw (c.let_go.ensures.disk, c.let_go.ensures.found)
    (closed_safely c.put-ended.result c.args.self.now.found c.put-ended.new.self.found c.args.changed.now c.args.bytes.now (g.L.Location.syncs c.args.self.now.place) (g.D.Disk.events c.args.self.now.bytes.disk) (g.D.Disk.events c.put-ended.new.self.bytes.disk) c.put-ended.ensures.safe)

pub returns-in-Ok-Closed-clause-makes : goal.returns-in-Ok-Closed-clause-makes
returns-in-Ok-Closed-clause-makes g c = grind (arith, common_steps, closed_making)

pub returns-in-Err-default-clause-writes : goal.returns-in-Err-default-clause-writes
returns-in-Err-default-clause-writes g c = grind (arith, common_steps, sound_as)

pub returns-in-Err-default-clause-power : goal.returns-in-Err-default-clause-power
returns-in-Err-default-clause-power g c = rw c.leave.ensures.disk c.put-ended.ensures.power

pub returns-in-Err-default-clause-safe : goal.returns-in-Err-default-clause-safe
returns-in-Err-default-clause-safe g c = grind (arith, common_steps, failed_safely)

pub returns-in-Err-default-clause-makes : goal.returns-in-Err-default-clause-makes
returns-in-Err-default-clause-makes g c = grind (arith, common_steps, failed_making)
