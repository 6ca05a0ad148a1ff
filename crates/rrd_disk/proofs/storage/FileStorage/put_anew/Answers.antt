use Rattle.rrd_disk.proofs.Common.{◌∙◌, ◌≡◌, Err, refl, subst, ap, ℕ, List, Option, IsTrue, World, held_after, is_honest_after, closed_sound, made_near, made_sound, unprepared_write, unwritten, written_first, written_over, Ordered, Base, world_after, Becomes, BecomesOrNot, Readies, first_power, made_power, or_failed, over_power, unready_power, Make, bare_stays, first_making, over_making, rests_unmarked, unmade_by, unmarked_twice, Unopened}
use Rattle.rrd_disk.proofs.storage.FileStorage.put_anew.Goals as goal

pub returns-in_err-make-clause-writes : goal.returns-in_err-make-clause-writes
returns-in_err-make-clause-writes g c = λ s honest sound.
    let old = held_after s (g.D.Disk.events c.args.self.now.bytes.disk) in
    let new = held_after s (g.D.Disk.events c.make.new.self.bytes.disk) in
    let made = c.make.ensures.rests.held s in (
      closed_sound c.make.new.self.found new c.make.ensures.found (made_sound old new made sound),
      unwritten c.from_residual.result c.args.bytes.now old new c.from_residual.ensures.0 (made_near c.file_laws.ensures old new made),
    )

pub returns-in-Ok-Some-clause-writes : goal.returns-in-Ok-Some-clause-writes
returns-in-Ok-Some-clause-writes g c =
    written_over c.file_laws.ensures c.put_all.new.self.found c.args.bytes.now (g.D.Disk.events c.args.self.now.bytes.disk) (g.D.Disk.events c.make.new.self.bytes.disk) c.make.ensures.rests.held c.in_ok-make.ensures.there
    (g.D.Disk.events c.prepare.new.file.disk) (g.D.Disk.events c.put_all.new.self.bytes.disk) c.prepare.ensures.falls c.put_all.ensures.falls c.put_all.result c.prepare.result c.in-Ok-Some.base
    (cc) c.prepare.ensures.prepares c.put_all.ensures.writes

pub returns-in-Ok-None-clause-writes : goal.returns-in-Ok-None-clause-writes
returns-in-Ok-None-clause-writes g c =
    written_first c.file_laws.ensures c.put_first.new.self.found c.args.bytes.now (g.D.Disk.events c.args.self.now.bytes.disk) (g.D.Disk.events c.make.new.self.bytes.disk) c.make.ensures.rests.held c.in_ok-make.ensures.there
    (g.D.Disk.events c.prepare.new.file.disk) (g.D.Disk.events c.put_first.new.self.bytes.disk) c.prepare.ensures.falls c.put_first.ensures.falls c.put_first.result c.prepare.result
    (cc) c.prepare.ensures.prepares c.put_first.ensures.writes

pub returns-in-Err-clause-writes : goal.returns-in-Err-clause-writes
returns-in-Err-clause-writes g c =
    unprepared_write c.file_laws.ensures c.make.new.self.found c.args.bytes.now (g.D.Disk.events c.args.self.now.bytes.disk) (g.D.Disk.events c.make.new.self.bytes.disk) c.make.ensures.rests.held c.in_ok-make.ensures.there
    c.in-Err.error (g.D.Disk.events c.prepare.new.file.disk) c.prepare.ensures.falls c.make.ensures.found c.in-Err.ensures.prepares

pub returns-in_err-make-clause-power : goal.returns-in_err-make-clause-power
returns-in_err-make-clause-power g c =
    let old = g.D.Disk.events c.args.self.now.bytes.disk in
    let new = g.D.Disk.events c.make.new.self.bytes.disk in
    let bytes = c.args.bytes.now in
    or_failed (λ x. Becomes bytes) (BecomesOrNot bytes) c.from_residual.result (g.L.Location.syncs c.args.self.now.place) old new c.from_residual.ensures.0 (λ ordered d w honest. made_power old new c.make.ensures.rests bytes d w)

pub returns-in-Ok-Some-clause-power : goal.returns-in-Ok-Some-clause-power
returns-in-Ok-Some-clause-power g c =
    let Is : Option Base → Type 0 = λ found. c.syncs-syncs.result ≡ Ordered → (d : List ℕ) (w : World) → IsTrue (is_honest_after w (g.D.Disk.events c.prepare.new.file.disk))
    → Readies found (world_after d w (g.D.Disk.events c.make.new.self.bytes.disk)) (world_after d w (g.D.Disk.events c.prepare.new.file.disk)) in
    let place = ap (λ p. g.L.Location.syncs p) c.make.ensures.place in
    over_power (g.D.Disk.events c.args.self.now.bytes.disk) (g.D.Disk.events c.make.new.self.bytes.disk) (g.D.Disk.events c.prepare.new.file.disk) (g.D.Disk.events c.put_all.new.self.bytes.disk) c.make.ensures.rests c.args.bytes.now
    (g.L.Location.syncs c.args.self.now.place) c.syncs-syncs.result (g.L.Location.syncs c.make.new.self.place) (c.syncs-syncs.ensures ∙ place) place
    c.put_all.result c.in-Ok-Some.base c.put_all.ensures.falls (subst Is c.in-Ok-Some.field-0-is c.in-Ok-Some.ensures.power) c.put_all.ensures.power

pub returns-in-Ok-None-clause-power : goal.returns-in-Ok-None-clause-power
returns-in-Ok-None-clause-power g c =
    let Is : Option Base → Type 0 = λ found. c.syncs-syncs.result ≡ Ordered → (d : List ℕ) (w : World) → IsTrue (is_honest_after w (g.D.Disk.events c.prepare.new.file.disk))
    → Readies found (world_after d w (g.D.Disk.events c.make.new.self.bytes.disk)) (world_after d w (g.D.Disk.events c.prepare.new.file.disk)) in
    let place = ap (λ p. g.L.Location.syncs p) c.make.ensures.place in
    first_power (g.D.Disk.events c.args.self.now.bytes.disk) (g.D.Disk.events c.make.new.self.bytes.disk) (g.D.Disk.events c.prepare.new.file.disk) (g.D.Disk.events c.put_first.new.self.bytes.disk) c.make.ensures.rests c.args.bytes.now
    (g.L.Location.syncs c.args.self.now.place) c.syncs-syncs.result (g.L.Location.syncs c.make.new.self.place) (c.syncs-syncs.ensures ∙ place) place
    c.put_first.result c.put_first.ensures.falls (subst Is c.in-Ok-None.field-0-is c.in-Ok-None.ensures.power)

pub returns-in-Err-clause-power : goal.returns-in-Err-clause-power
returns-in-Err-clause-power g c =
    let place = ap (λ p. g.L.Location.syncs p) c.make.ensures.place in
    unready_power (g.D.Disk.events c.args.self.now.bytes.disk) (g.D.Disk.events c.make.new.self.bytes.disk) (g.D.Disk.events c.prepare.new.file.disk) (g.D.Disk.events c.prepare.new.file.disk) c.make.ensures.rests c.args.bytes.now
    (g.L.Location.syncs c.args.self.now.place) c.syncs-syncs.result (g.L.Location.syncs c.make.new.self.place) (c.syncs-syncs.ensures ∙ place) place c.in-Err.ensures.power

pub returns-in_err-make-clause-makes : goal.returns-in_err-make-clause-makes
returns-in_err-make-clause-makes g c =
    let old = g.D.Disk.events c.args.self.now.bytes.disk in
    let new = g.D.Disk.events c.make.new.self.bytes.disk in
    unmade_by Unopened c.args.bytes.now c.from_residual.result (g.L.Location.syncs c.args.self.now.place) old new c.from_residual.ensures.0 (λ d w honest bare. bare_stays d w old new (rests_unmarked Make old new c.make.ensures.rests) honest bare)

pub returns-in-Ok-Some-clause-makes : goal.returns-in-Ok-Some-clause-makes
returns-in-Ok-Some-clause-makes g c =
    over_making c.file_laws.ensures c.args.bytes.now (g.D.Disk.events c.args.self.now.bytes.disk) (g.D.Disk.events c.make.new.self.bytes.disk) (g.D.Disk.events c.prepare.new.file.disk) (g.D.Disk.events c.put_all.new.self.bytes.disk)
    c.make.ensures.rests c.prepare.ensures.unmarked c.prepare.ensures.falls c.put_all.ensures.falls c.put_all.result (g.L.Location.syncs c.args.self.now.place) c.prepare.result c.in-Ok-Some.base (cc) c.in_ok-make.ensures.there c.prepare.ensures.prepares

pub returns-in-Ok-None-clause-makes : goal.returns-in-Ok-None-clause-makes
returns-in-Ok-None-clause-makes g c =
    first_making c.file_laws.ensures c.args.bytes.now (g.D.Disk.events c.args.self.now.bytes.disk) (g.D.Disk.events c.make.new.self.bytes.disk) (g.D.Disk.events c.prepare.new.file.disk) (g.D.Disk.events c.put_first.new.self.bytes.disk)
    c.make.ensures.rests c.prepare.ensures.unmarked c.prepare.ensures.falls c.put_first.ensures.falls c.put_first.result (g.L.Location.syncs c.args.self.now.place) (g.L.Location.syncs c.make.new.self.place) (ap (λ p. g.L.Location.syncs p) c.make.ensures.place) c.put_first.ensures.makes

pub returns-in-Err-clause-makes : goal.returns-in-Err-clause-makes
returns-in-Err-clause-makes g c =
    let old = g.D.Disk.events c.args.self.now.bytes.disk in
    let mid = g.D.Disk.events c.make.new.self.bytes.disk in
    let new = g.D.Disk.events c.prepare.new.file.disk in
    unmade_by Unopened c.args.bytes.now (Err c.in-Err.error) (g.L.Location.syncs c.args.self.now.place) old new refl
    (λ d w honest bare. bare_stays d w old new (unmarked_twice old mid new c.prepare.ensures.falls (rests_unmarked Make old mid c.make.ensures.rests) c.prepare.ensures.unmarked) honest bare)
