use Rattle.rrd_disk.proofs.Common.{rules, Unopened, loads_closed, ap, loads_sound, loads_unopened, reopens_unopened, safe_loaded}
use Rattle.rrd_disk.proofs.storage.FileStorageStorage.load_to_update.Goals as goal

pub returns-in-Err-clause-sound : goal.returns-in-Err-clause-sound
returns-in-Err-clause-sound g c = rw (c.let_go.ensures.disk, c.let_go.ensures.found)
    (loads_closed c.args.self.now.found c.load_for.new.self.found (g.D.Disk.events c.args.self.now.bytes.disk) (g.D.Disk.events c.load_for.new.self.bytes.disk) c.load_for.result c.load_for.ensures.loads)

pub returns-in-Ok-Some-clause-safe : goal.returns-in-Ok-Some-clause-safe
returns-in-Ok-Some-clause-safe g c = rw (c.with_bytes.ensures.disk, c.with_bytes.ensures.found, c.with_bytes.ensures.place)
    (safe_loaded c.file_laws.ensures c.args.self.now.found c.load_for.new.self.found (g.D.Disk.events c.args.self.now.bytes.disk) (g.D.Disk.events c.load_for.new.self.bytes.disk) (c.may_load.ensures (search rules)) c.load_for.ensures.unmarked (loads_sound c.args.self.now.found c.load_for.new.self.found (g.D.Disk.events c.args.self.now.bytes.disk) (g.D.Disk.events c.load_for.new.self.bytes.disk) c.load_for.result c.load_for.ensures.loads) (g.L.Location.syncs c.args.self.now.place) (g.L.Location.syncs c.load_for.new.self.place) (ap g.L.Location.syncs c.load_for.ensures.place) c.load_for.ensures.power)

pub returns-in-Ok-None-clause-safe : goal.returns-in-Ok-None-clause-safe
returns-in-Ok-None-clause-safe g c = safe_loaded c.file_laws.ensures c.args.self.now.found c.load_for.new.self.found (g.D.Disk.events c.args.self.now.bytes.disk) (g.D.Disk.events c.load_for.new.self.bytes.disk) (c.may_load.ensures (search rules)) c.load_for.ensures.unmarked (loads_sound c.args.self.now.found c.load_for.new.self.found (g.D.Disk.events c.args.self.now.bytes.disk) (g.D.Disk.events c.load_for.new.self.bytes.disk) c.load_for.result c.load_for.ensures.loads) (g.L.Location.syncs c.args.self.now.place) (g.L.Location.syncs c.load_for.new.self.place) (ap g.L.Location.syncs c.load_for.ensures.place) c.load_for.ensures.power

pub returns-in-Err-clause-safe : goal.returns-in-Err-clause-safe
returns-in-Err-clause-safe g c = rw (c.let_go.ensures.disk, c.let_go.ensures.found, c.let_go.ensures.place)
    (safe_loaded c.file_laws.ensures c.args.self.now.found Unopened (g.D.Disk.events c.args.self.now.bytes.disk) (g.D.Disk.events c.load_for.new.self.bytes.disk) (c.may_load.ensures (search rules)) c.load_for.ensures.unmarked (loads_unopened c.args.self.now.found c.load_for.new.self.found (g.D.Disk.events c.args.self.now.bytes.disk) (g.D.Disk.events c.load_for.new.self.bytes.disk) c.load_for.result c.load_for.ensures.loads) (g.L.Location.syncs c.args.self.now.place) (g.L.Location.syncs c.load_for.new.self.place) (ap g.L.Location.syncs c.load_for.ensures.place)
    (reopens_unopened (g.L.Location.syncs c.args.self.now.place) c.args.self.now.found c.load_for.new.self.found (g.D.Disk.events c.args.self.now.bytes.disk) (g.D.Disk.events c.load_for.new.self.bytes.disk) c.load_for.ensures.power))
