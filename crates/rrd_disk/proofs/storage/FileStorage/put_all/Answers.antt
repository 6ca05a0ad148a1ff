use Rattle.rrd_disk.proofs.Common.{◌∙◌, ap, Base, held_after, any_enough, does_falls, closed_sound, replaced, unreplaced, replaced_power, unreplaced_power, began_at}
use Rattle.rrd_disk.proofs.storage.FileStorage.put_all.Goals as goal

pub base_of-requires : goal.base_of-requires
base_of-requires g c = any_enough c.file_laws.ensures c.args.bytes.now c.requires.any

pub returns-in-Ok-clause-falls : goal.returns-in-Ok-clause-falls
returns-in-Ok-clause-falls g c = does_falls c.syncs-syncs.result _ _ c.replace.result (g.D.Disk.events c.args.self.now.bytes.disk) (g.D.Disk.events c.replace.new.file.disk) c.replace.ensures

pub returns-in-Err-clause-falls : goal.returns-in-Err-clause-falls
returns-in-Err-clause-falls g c = does_falls c.syncs-syncs.result _ _ c.replace.result (g.D.Disk.events c.args.self.now.bytes.disk) (g.D.Disk.events c.replace.new.file.disk) c.replace.ensures

pub returns-in-Ok-clause-writes : goal.returns-in-Ok-clause-writes
returns-in-Ok-clause-writes g c = λ s honest is.
    replaced c.file_laws.ensures c.syncs-syncs.result c.args.base.now c.args.bytes.now c.requires.any (g.D.Disk.events c.args.self.now.bytes.disk) (g.D.Disk.events c.replace.new.file.disk) s honest is
    c.base_of.result (ap (λ (b : Base). b.length) c.base_of.ensures) (ap (λ (b : Base). b.first) c.base_of.ensures) c.in-Ok.ensures

pub returns-in-Err-clause-writes : goal.returns-in-Err-clause-writes
returns-in-Err-clause-writes g c = λ s honest is.
    let left = unreplaced c.file_laws.ensures c.syncs-syncs.result c.args.base.now c.args.bytes.now c.requires.any (g.D.Disk.events c.args.self.now.bytes.disk) (g.D.Disk.events c.replace.new.file.disk) s honest is c.in-Err.ensures in
    (closed_sound c.args.self.now.found (held_after s (g.D.Disk.events c.replace.new.file.disk)) c.requires.found left.0, left.1)

pub returns-in-Ok-clause-power : goal.returns-in-Ok-clause-power
returns-in-Ok-clause-power g c = λ ordered.
    replaced_power c.syncs-syncs.result c.args.base.now c.args.bytes.now (g.D.Disk.events c.args.self.now.bytes.disk) (g.D.Disk.events c.replace.new.file.disk) c.in-Ok.ensures (c.syncs-syncs.ensures ∙ ordered)

pub returns-in-Err-clause-power : goal.returns-in-Err-clause-power
returns-in-Err-clause-power g c = λ ordered.
    unreplaced_power c.syncs-syncs.result c.args.base.now c.args.bytes.now (g.D.Disk.events c.args.self.now.bytes.disk) (g.D.Disk.events c.replace.new.file.disk) c.in-Err.ensures (c.syncs-syncs.ensures ∙ ordered)

pub returns-in-Ok-clause-began : goal.returns-in-Ok-clause-began
returns-in-Ok-clause-began g c = began_at c.file_laws.ensures c.base_of.result c.args.bytes.now c.requires.any (ap (λ (b : Base). b.length) c.base_of.ensures) (ap (λ (b : Base). b.first) c.base_of.ensures)
