use Rattle.rrd_disk.proofs.Common.{ap, rules, PutsSafely, differs_by, safe_put, safe_stored, arith, common_steps}
use Rattle.rrd_disk.proofs.storage.FileStorageStorage.replace_where.Goals as goal

pub returns-clause-safe : goal.returns-clause-safe
returns-clause-safe g c s d q honest differs holds safe =
    let puts : PutsSafely (g.L.Location.syncs c.args.self.now.place) c.args.self.now.found c.write-ended.new.self.found c.args.changed.now c.args.bytes.now (g.D.Disk.events c.args.self.now.bytes.disk) (g.D.Disk.events c.write-ended.new.self.bytes.disk) c.write-ended.result = search rules in
    safe_put c.file_laws.ensures (g.L.Location.syncs c.args.self.now.place) (g.L.Location.syncs c.write-ended.new.self.place) (ap g.L.Location.syncs c.write-ended.ensures.place) c.args.self.now.found c.write-ended.new.self.found c.args.changed.now c.args.bytes.now c.requires (g.D.Disk.events c.args.self.now.bytes.disk) (g.D.Disk.events c.write-ended.new.self.bytes.disk)
    s d c.write-ended.result q c.write-ended.ensures.closed puts c.write-ended.ensures.makes honest (differs_by s c.args.changed.now (g.D.Disk.events c.args.self.now.bytes.disk) c.args.bytes.now differs) holds safe

pub returns-clause-stored : goal.returns-clause-stored
returns-clause-stored g c s d q r ok honest differs holds safe = grind (arith, common_steps, safe_stored, differs_by)
