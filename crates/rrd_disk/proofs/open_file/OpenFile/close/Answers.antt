use Rattle.rrd_disk.proofs.Common.{finished_sound, reloaded, reopened_safe, arith, common_steps}
use Rattle.rrd_disk.proofs.open_file.OpenFile.close.Goals as goal

pub returns-clause-stays : goal.returns-clause-stays
returns-clause-stays g c = rw (← c.into_storage-storage.ensures, c.into_disk.ensures) (λ kept.
    let storage = c.into_storage-storage.result in
    reloaded storage.found (g.D.Disk.events storage.bytes.disk) (g.D.Disk.events c.finish.new.self.bytes.disk) c.args.self.session.database c.args.self.session.encoded c.finish.ensures.falls c.finish.ensures.same kept)

pub returns-clause-sound : goal.returns-clause-sound
returns-clause-sound g c = rw (← c.into_storage-storage.ensures, c.into_disk.ensures) (λ kept.
    let storage = c.into_storage-storage.result in
    finished_sound storage.found (g.D.Disk.events storage.bytes.disk) (g.D.Disk.events c.finish.new.self.bytes.disk) c.args.self.session.database c.args.self.session.encoded c.finish.ensures.falls c.finish.ensures.same kept)

pub returns-clause-power : goal.returns-clause-power
returns-clause-power g c = grind (arith, common_steps, reopened_safe)
