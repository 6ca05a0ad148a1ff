use Rattle.rrd_disk.proofs.Common.{written_err, written_ok, written_sound, whole_may_differ, ap, whole_differs_by, safe_put, safe_stored, arith, common_steps}
use Rattle.rrd_disk.proofs.storage.FileStorageStorage.replace.Goals as goal

pub returns-clause-sound : goal.returns-clause-sound
returns-clause-sound g c = grind (arith, common_steps, written_sound, whole_may_differ)

pub returns-clause-ok : goal.returns-clause-ok
returns-clause-ok g c =
    written_ok _ c.args.self.now.found c.write-ended.new.self.found _ c.args.bytes.now (g.D.Disk.events c.args.self.now.bytes.disk) (g.D.Disk.events c.write-ended.new.self.bytes.disk) c.write-ended.result (whole_may_differ c.args.bytes.now) c.write-ended.ensures.writes

pub returns-clause-err : goal.returns-clause-err
returns-clause-err g c =
    written_err _ c.args.self.now.found c.write-ended.new.self.found _ c.args.bytes.now (g.D.Disk.events c.args.self.now.bytes.disk) (g.D.Disk.events c.write-ended.new.self.bytes.disk) c.write-ended.result (whole_may_differ c.args.bytes.now) c.write-ended.ensures.writes

pub returns-clause-safe : goal.returns-clause-safe
returns-clause-safe g c s d q honest holds safe =
    safe_put c.file_laws.ensures (g.L.Location.syncs c.args.self.now.place) (g.L.Location.syncs c.write-ended.new.self.place) (ap g.L.Location.syncs c.write-ended.ensures.place) c.args.self.now.found c.write-ended.new.self.found _ c.args.bytes.now c.requires (g.D.Disk.events c.args.self.now.bytes.disk) (g.D.Disk.events c.write-ended.new.self.bytes.disk)
    s d c.write-ended.result q c.write-ended.ensures.closed c.write-ended.ensures.safe c.write-ended.ensures.makes honest (whole_differs_by s (g.D.Disk.events c.args.self.now.bytes.disk) c.args.bytes.now) holds safe

pub returns-clause-stored : goal.returns-clause-stored
returns-clause-stored g c s d q r ok honest holds safe =
    safe_stored c.file_laws.ensures (g.L.Location.syncs c.args.self.now.place) (g.L.Location.syncs c.write-ended.new.self.place) (ap g.L.Location.syncs c.write-ended.ensures.place) c.args.self.now.found c.write-ended.new.self.found _ c.args.bytes.now c.requires (g.D.Disk.events c.args.self.now.bytes.disk) (g.D.Disk.events c.write-ended.new.self.bytes.disk)
    s d c.write-ended.result q r ok c.write-ended.ensures.safe c.write-ended.ensures.makes honest (whole_differs_by s (g.D.Disk.events c.args.self.now.bytes.disk) c.args.bytes.now) holds safe
