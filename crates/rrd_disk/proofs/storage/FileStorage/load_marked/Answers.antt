use Rattle.rrd_disk.proofs.Common.{marked_from, fault_loaded, refl, Unopened, rests_closed, rests_then, arith, common_steps}
use Rattle.rrd_disk.proofs.storage.FileStorage.load_marked.Goals as goal

pub returns-in-Ok-clause-loads : goal.returns-in-Ok-clause-loads
returns-in-Ok-clause-loads g c = grind (arith, common_steps, marked_from)

pub returns-in-Err-clause-loads : goal.returns-in-Err-clause-loads
returns-in-Err-clause-loads g c = grind (arith, common_steps, fault_loaded)

pub returns-in-Ok-clause-power : goal.returns-in-Ok-clause-power
returns-in-Ok-clause-power g c =
    rests_then c.load_standing.new.self.found (g.L.Location.syncs c.args.self.now.place) (g.L.Location.syncs c.args.self.now.place) refl (g.D.Disk.events c.args.self.now.bytes.disk) (g.D.Disk.events c.find_standing.new.file.disk) (g.D.Disk.events c.load_standing.new.self.bytes.disk) c.find_standing.ensures.rests c.load_standing.ensures.power

pub returns-in-Err-clause-power : goal.returns-in-Err-clause-power
returns-in-Err-clause-power g c = rests_closed (g.L.Location.syncs c.args.self.now.place) (g.D.Disk.events c.args.self.now.bytes.disk) (g.D.Disk.events c.find_standing.new.file.disk) c.find_standing.ensures.rests Unopened tt
