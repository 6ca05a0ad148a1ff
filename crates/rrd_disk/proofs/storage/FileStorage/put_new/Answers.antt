use Rattle.rrd_disk.proofs.Common.{ap, ◌≡◌, Base, held_after, any_enough, does_falls, closed_sound, created, failed_written, made_near, made_sound, missing_none, missing_sound, uncreated, unwritten, ◌∙◌, Syncs, Make, began_at, new_making, new_unmade, rests_stay, unmade_by}
use Rattle.rrd_disk.specs.declared.storage.Found.TheVariants.{Missing}
use Rattle.rrd_disk.proofs.storage.FileStorage.put_new.Goals as goal

pub base_of-requires : goal.base_of-requires
base_of-requires g c = any_enough c.file_laws.ensures c.args.bytes.now c.requires

pub returns-in_err-make_empty-clause-writes : goal.returns-in_err-make_empty-clause-writes
returns-in_err-make_empty-clause-writes g c = λ s honest none.
    let old = held_after s (g.D.Disk.events c.args.self.now.bytes.disk) in
    let new = held_after s (g.D.Disk.events c.make_empty.new.self.bytes.disk) in
    let made = c.make_empty.ensures.rests.held s in (
      closed_sound c.make_empty.new.self.found new c.make_empty.ensures.found (made_sound old new made (missing_sound old none)),
      unwritten c.from_residual.result c.args.bytes.now old new c.from_residual.ensures.0 (made_near c.file_laws.ensures old new made),
    )

pub returns-in_err-create-clause-falls : goal.returns-in_err-create-clause-falls
returns-in_err-create-clause-falls g c = λ s honest.
    let one : Syncs = c.syncs-syncs.result in
    c.make_empty.ensures.rests.falls s (does_falls one _ _ c.create.result (g.D.Disk.events c.make_empty.new.self.bytes.disk) (g.D.Disk.events c.create.new.file.disk) c.create.ensures s honest)

pub returns-in_err-create-clause-writes : goal.returns-in_err-create-clause-writes
returns-in_err-create-clause-writes g c = λ s honest none.
    let two : Syncs = c.syncs-syncs.result in
    let before = g.D.Disk.events c.args.self.now.bytes.disk in
    let mid = g.D.Disk.events c.make_empty.new.self.bytes.disk in
    let after = g.D.Disk.events c.create.new.file.disk in
    let first = does_falls two _ _ c.create.result mid after c.create.ensures s honest in
    let is = uncreated c.file_laws.ensures two c.args.bytes.now before mid after c.requires c.in_err-create.ensures s honest (missing_none (held_after s before) none) (c.in_ok-make_empty.ensures.empty s first) in (
      closed_sound c.make_empty.new.self.found (held_after s after) c.make_empty.ensures.found is.0,
      failed_written c.from_residual-in_err-create.result c.args.bytes.now (held_after s before) (held_after s after) c.from_residual-in_err-create.ensures.0 is.1,
    )

pub returns-clause-falls : goal.returns-clause-falls
returns-clause-falls g c = λ s honest.
    let three : Syncs = c.syncs-syncs.result in
    c.make_empty.ensures.rests.falls s (does_falls three _ _ c.create.result (g.D.Disk.events c.make_empty.new.self.bytes.disk) (g.D.Disk.events c.create.new.file.disk) c.create.ensures s honest)

pub returns-clause-writes : goal.returns-clause-writes
returns-clause-writes g c = λ s honest none.
    let four : Syncs = c.syncs-syncs.result in
    let mid = g.D.Disk.events c.make_empty.new.self.bytes.disk in
    let after = g.D.Disk.events c.create.new.file.disk in
    let first = does_falls four _ _ c.create.result mid after c.create.ensures s honest in
    created c.file_laws.ensures four c.base_of.result c.args.bytes.now mid mid after c.requires (ap (λ (b : Base). b.length) c.base_of.ensures) (ap (λ (b : Base). b.first) c.base_of.ensures)
    c.in_ok-create.ensures s honest (c.in_ok-make_empty.ensures.empty s first)

pub returns-clause-began : goal.returns-clause-began
returns-clause-began g c = began_at c.file_laws.ensures c.base_of.result c.args.bytes.now c.requires (ap (λ (b : Base). b.length) c.base_of.ensures) (ap (λ (b : Base). b.first) c.base_of.ensures)

pub returns-in_err-make_empty-clause-makes : goal.returns-in_err-make_empty-clause-makes
returns-in_err-make_empty-clause-makes g c =
    let old = g.D.Disk.events c.args.self.now.bytes.disk in
    let new = g.D.Disk.events c.make_empty.new.self.bytes.disk in
    unmade_by Missing c.args.bytes.now c.from_residual.result (g.L.Location.syncs c.args.self.now.place) old new c.from_residual.ensures.0 (λ d w honest empty. rests_stay Make old new c.make_empty.ensures.rests d w)

pub returns-in_err-create-clause-makes : goal.returns-in_err-create-clause-makes
returns-in_err-create-clause-makes g c =
    let five : Syncs = c.syncs-syncs.result in
    let five_is : five ≡ g.L.Location.syncs c.args.self.now.place = c.syncs-syncs.ensures ∙ ap g.L.Location.syncs c.make_empty.ensures.place in
    new_unmade c.args.bytes.now (g.D.Disk.events c.args.self.now.bytes.disk) (g.D.Disk.events c.make_empty.new.self.bytes.disk) (g.D.Disk.events c.create.new.file.disk) (g.L.Location.syncs c.args.self.now.place) five five_is
    c.from_residual-in_err-create.result c.from_residual-in_err-create.ensures.0 c.make_empty.ensures.rests c.in_err-create.ensures

pub returns-clause-makes : goal.returns-clause-makes
returns-clause-makes g c =
    let six : Syncs = c.syncs-syncs.result in
    let six_is : six ≡ g.L.Location.syncs c.args.self.now.place = c.syncs-syncs.ensures ∙ ap g.L.Location.syncs c.make_empty.ensures.place in
    new_making c.args.bytes.now (g.D.Disk.events c.args.self.now.bytes.disk) (g.D.Disk.events c.make_empty.new.self.bytes.disk) (g.D.Disk.events c.create.new.file.disk) (g.L.Location.syncs c.args.self.now.place) six six_is
    c.make_empty.ensures.rests c.in_ok-create.ensures
