use Rattle.rrd_disk.proofs.Common.{rules, Unopened, loads_closed, ap, loads_sound, loads_unopened, reopens_unopened, safe_loaded}
use Rattle.rrd_disk.proofs.storage.FileStorageStorage.load.Goals as goal

pub returns-then-is_err-clause-sound : goal.returns-then-is_err-clause-sound
returns-then-is_err-clause-sound g c = rw (c.let_go.ensures.disk, c.let_go.ensures.found)
    (loads_closed c.args.self.now.found c.load_for-loaded.new.self.found (g.D.Disk.events c.args.self.now.bytes.disk) (g.D.Disk.events c.load_for-loaded.new.self.bytes.disk) c.load_for-loaded.result c.load_for-loaded.ensures.loads)

pub returns-then-is_err-clause-safe : goal.returns-then-is_err-clause-safe
returns-then-is_err-clause-safe g c = rw (c.let_go.ensures.disk, c.let_go.ensures.found, c.let_go.ensures.place)
    (safe_loaded c.file_laws.ensures c.args.self.now.found Unopened (g.D.Disk.events c.args.self.now.bytes.disk) (g.D.Disk.events c.load_for-loaded.new.self.bytes.disk) (c.may_load.ensures (search rules)) c.load_for-loaded.ensures.unmarked (loads_unopened c.args.self.now.found c.load_for-loaded.new.self.found (g.D.Disk.events c.args.self.now.bytes.disk) (g.D.Disk.events c.load_for-loaded.new.self.bytes.disk) c.load_for-loaded.result c.load_for-loaded.ensures.loads) (g.L.Location.syncs c.args.self.now.place) (g.L.Location.syncs c.load_for-loaded.new.self.place) (ap g.L.Location.syncs c.load_for-loaded.ensures.place)
    (reopens_unopened (g.L.Location.syncs c.args.self.now.place) c.args.self.now.found c.load_for-loaded.new.self.found (g.D.Disk.events c.args.self.now.bytes.disk) (g.D.Disk.events c.load_for-loaded.new.self.bytes.disk) c.load_for-loaded.ensures.power))

pub returns-else-is_err-clause-safe : goal.returns-else-is_err-clause-safe
returns-else-is_err-clause-safe g c = safe_loaded c.file_laws.ensures c.args.self.now.found c.load_for-loaded.new.self.found (g.D.Disk.events c.args.self.now.bytes.disk) (g.D.Disk.events c.load_for-loaded.new.self.bytes.disk) (c.may_load.ensures (search rules)) c.load_for-loaded.ensures.unmarked (loads_sound c.args.self.now.found c.load_for-loaded.new.self.found (g.D.Disk.events c.args.self.now.bytes.disk) (g.D.Disk.events c.load_for-loaded.new.self.bytes.disk) c.load_for-loaded.result c.load_for-loaded.ensures.loads) (g.L.Location.syncs c.args.self.now.place) (g.L.Location.syncs c.load_for-loaded.new.self.place) (ap g.L.Location.syncs c.load_for-loaded.ensures.place) c.load_for-loaded.ensures.power
