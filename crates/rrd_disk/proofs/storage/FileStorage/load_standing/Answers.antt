use Rattle.rrd_disk.proofs.Common.{Unwritable, closed_unrepaired, loaded_repaired, loaded_unrepaired, does_falls, ◌≡◌, refl, Syncs, repaired_opens, unrepaired_opens, Unopened, arith, common_steps}
use Rattle.rrd_disk.proofs.storage.FileStorage.load_standing.Goals as goal

pub returns-in-Ok-clause-falls : goal.returns-in-Ok-clause-falls
returns-in-Ok-clause-falls g c = grind (arith, common_steps, does_falls)

pub returns-in-Ok-clause-loads : goal.returns-in-Ok-clause-loads
returns-in-Ok-clause-loads g c =
    loaded_repaired c.file_laws.ensures c.syncs-syncs.result c.args.standing (g.D.Disk.events c.args.self.now.bytes.disk) (g.D.Disk.events c.repair.new.file.disk) c.requires.stands
    c.load_unmarked.new.self.found c.load_unmarked.result (g.D.Disk.events c.load_unmarked.new.self.bytes.disk) c.in-Ok.ensures c.load_unmarked.ensures.rests.falls c.load_unmarked.ensures.loads

pub returns-in-Err-clause-falls : goal.returns-in-Err-clause-falls
returns-in-Err-clause-falls g c = does_falls c.syncs-syncs.result _ _ c.repair.result (g.D.Disk.events c.args.self.now.bytes.disk) (g.D.Disk.events c.repair.new.file.disk) c.repair.ensures

pub returns-in-Err-clause-loads : goal.returns-in-Err-clause-loads
returns-in-Err-clause-loads g c = rw c.requires.found
    (closed_unrepaired c.file_laws.ensures c.syncs-syncs.result c.args.standing (g.D.Disk.events c.args.self.now.bytes.disk) (g.D.Disk.events c.repair.new.file.disk) c.requires.stands c.cannot_open.result c.cannot_open.ensures c.in-Err.ensures)

pub returns-in-Err-2-clause-falls : goal.returns-in-Err-2-clause-falls
returns-in-Err-2-clause-falls g c = does_falls c.syncs-syncs.result _ _ c.repair.result (g.D.Disk.events c.args.self.now.bytes.disk) (g.D.Disk.events c.repair.new.file.disk) c.repair.ensures

pub returns-in-Err-2-clause-loads : goal.returns-in-Err-2-clause-loads
returns-in-Err-2-clause-loads g c =
    loaded_unrepaired c.file_laws.ensures c.syncs-syncs.result c.args.standing (g.D.Disk.events c.args.self.now.bytes.disk) (g.D.Disk.events c.repair.new.file.disk) c.requires.stands (Unwritable c.in-Err.error) (λ h is. is) c.in-Err.ensures

pub returns-in-Ok-clause-power : goal.returns-in-Ok-clause-power
returns-in-Ok-clause-power g c =
    let old = g.D.Disk.events c.args.self.now.bytes.disk in
    let fixed = g.D.Disk.events c.repair.new.file.disk in
    let one : Syncs = c.syncs-syncs.result in
    let same : one ≡ (g.L.Location.syncs c.args.self.now.place) = c.syncs-syncs.ensures in
    repaired_opens c.file_laws.ensures c.args.standing old fixed c.requires.stands (does_falls one _ _ c.repair.result old fixed c.repair.ensures) (g.L.Location.syncs c.args.self.now.place) one same
    c.in-Ok.ensures (g.D.Disk.events c.load_unmarked.new.self.bytes.disk) c.load_unmarked.ensures.rests.falls c.load_unmarked.new.self.found (g.L.Location.syncs c.args.self.now.place) refl c.load_unmarked.ensures.power

pub returns-in-Err-clause-power : goal.returns-in-Err-clause-power
returns-in-Err-clause-power g c = rw c.requires.found (
    let old = g.D.Disk.events c.args.self.now.bytes.disk in
    let fixed = g.D.Disk.events c.repair.new.file.disk in
    unrepaired_opens c.file_laws.ensures c.args.standing old fixed c.requires.stands (does_falls c.syncs-syncs.result _ _ c.repair.result old fixed c.repair.ensures) (g.L.Location.syncs c.args.self.now.place) c.syncs-syncs.result c.syncs-syncs.ensures
    c.in-Err.ensures Unopened tt)

pub returns-in-Err-2-clause-power : goal.returns-in-Err-2-clause-power
returns-in-Err-2-clause-power g c =
    let old = g.D.Disk.events c.args.self.now.bytes.disk in
    let fixed = g.D.Disk.events c.repair.new.file.disk in
    unrepaired_opens c.file_laws.ensures c.args.standing old fixed c.requires.stands (does_falls c.syncs-syncs.result _ _ c.repair.result old fixed c.repair.ensures) (g.L.Location.syncs c.args.self.now.place) c.syncs-syncs.result c.syncs-syncs.ensures
    c.in-Err.ensures (Unwritable c.in-Err.error) tt
