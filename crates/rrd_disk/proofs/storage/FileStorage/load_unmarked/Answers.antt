use Rattle.rrd_disk.proofs.Common.{fault_unmarked, loaded_unmarked, Unopened, unmarked_opens, arith, common_steps}
use Rattle.rrd_disk.proofs.storage.FileStorage.load_unmarked.Goals as goal

pub returns-in-Ok-clause-loads : goal.returns-in-Ok-clause-loads
returns-in-Ok-clause-loads g c = λ s honest there none.
    loaded_unmarked c.file_laws.ensures c.as_loaded.result c.in-Ok.database (g.D.Disk.events c.args.self.now.bytes.disk) (g.D.Disk.events c.load.new.file.disk) s honest
    (c.load.ensures.rests.held s) there none c.as_loaded.ensures (c.in-Ok.ensures.reads s honest)

pub returns-in-Err-clause-loads : goal.returns-in-Err-clause-loads
returns-in-Err-clause-loads g c = grind (arith, common_steps, fault_unmarked)

pub returns-in-Ok-clause-power : goal.returns-in-Ok-clause-power
returns-in-Ok-clause-power g c = unmarked_opens c.file_laws.ensures (g.L.Location.syncs c.args.self.now.place) (g.D.Disk.events c.args.self.now.bytes.disk) (g.D.Disk.events c.load.new.file.disk) c.load.ensures.rests c.as_loaded.result c.as_loaded.ensures

pub returns-in-Err-clause-power : goal.returns-in-Err-clause-power
returns-in-Err-clause-power g c = unmarked_opens c.file_laws.ensures (g.L.Location.syncs c.args.self.now.place) (g.D.Disk.events c.args.self.now.bytes.disk) (g.D.Disk.events c.load.new.file.disk) c.load.ensures.rests Unopened tt
