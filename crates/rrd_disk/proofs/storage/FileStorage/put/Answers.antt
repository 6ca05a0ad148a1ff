use Rattle.rrd_disk.proofs.Common.{◌≡◌, ◌∙◌, List, OnErr, length, sym, refl, subst, inl, Span, held_after, AreOf, Found, Unopened, Open, Kept, does_falls, sound_at, written_from, unwritten, Becomes, BecomesOrNot, or_failed, as_left, became_safely, changed_safely, found_safely, missing_safely, unchanged_safely, Err, found_making, made_safely, open_making, unmade_safely, arith, common_steps}
use Rattle.rrd_disk.proofs.storage.FileStorage.put.Goals as goal

pub returns-in_err-spans-clause-writes : goal.returns-in_err-spans-clause-writes
returns-in_err-spans-clause-writes g c = grind (arith, common_steps, unwritten)

pub returns-in-Unopened-clause-writes : goal.returns-in-Unopened-clause-writes
returns-in-Unopened-clause-writes g c = grind (arith, common_steps, sound_at)

pub returns-in-Missing-clause-writes : goal.returns-in-Missing-clause-writes
returns-in-Missing-clause-writes g c = grind (arith, common_steps, sound_at)

pub returns-in-Open-clause-falls : goal.returns-in-Open-clause-falls
returns-in-Open-clause-falls g c = does_falls (g.L.Location.syncs c.args.self.now.place) _ _ c.put_open.result (g.D.Disk.events c.args.self.now.bytes.disk) (g.D.Disk.events c.put_open.new.self.bytes.disk) c.put_open.ensures.does

pub returns-in-Open-clause-writes : goal.returns-in-Open-clause-writes
returns-in-Open-clause-writes g c = λ s honest sound differs.
    let old = g.D.Disk.events c.args.self.now.bytes.disk in
    let new = g.D.Disk.events c.put_open.new.self.bytes.disk in
    let bytes = c.args.bytes.now in
    let are = subst (λ (xs : List Span). AreOf (length bytes) c.args.changed.now xs) (sym c.deref.ensures.value) c.in_ok-spans.ensures in
    let is = sound_at c.args.self.now.found (Open c.in-Open.base) (held_after s old) (sym c.replace.ensures.value ∙ c.in-Open.is) sound in
    written_from c.file_laws.ensures (Open c.in-Open.base) c.put_open.new.self.found c.args.changed.now c.deref.result.now bytes c.put_open.result (g.L.Location.syncs c.args.self.now.place) old new c.requires are
    (subst (λ (f : Found). OnErr c.put_open.result (c.put_open.new.self.found ≡ f)) c.replace.ensures.after c.put_open.ensures.found) c.put_open.ensures.does s honest is differs

pub returns-clause-falls : goal.returns-clause-falls
returns-clause-falls g c = does_falls (g.L.Location.syncs c.args.self.now.place) _ _ c.put_kept.result (g.D.Disk.events c.args.self.now.bytes.disk) (g.D.Disk.events c.put_kept.new.self.bytes.disk) c.put_kept.ensures.does

pub returns-clause-writes : goal.returns-clause-writes
returns-clause-writes g c = λ s honest sound differs.
    let old = g.D.Disk.events c.args.self.now.bytes.disk in
    let new = g.D.Disk.events c.put_kept.new.self.bytes.disk in
    let bytes = c.args.bytes.now in
    let are = subst (λ (xs : List Span). AreOf (length bytes) c.args.changed.now xs) (sym c.deref-in-Kept.ensures.value) c.in_ok-spans.ensures in
    let is = sound_at c.args.self.now.found (Kept c.in-Kept.base c.in-Kept.log) (held_after s old) (sym c.replace.ensures.value ∙ c.in-Kept.is) sound in
    written_from c.file_laws.ensures (Kept c.in-Kept.base c.in-Kept.log) c.put_kept.new.self.found c.args.changed.now c.deref-in-Kept.result.now bytes c.put_kept.result (g.L.Location.syncs c.args.self.now.place) old new c.requires are
    (subst (λ (f : Found). OnErr c.put_kept.result (c.put_kept.new.self.found ≡ f)) c.replace.ensures.after c.put_kept.ensures.found) c.put_kept.ensures.does s honest is differs

pub returns-in_err-spans-clause-power : goal.returns-in_err-spans-clause-power
returns-in_err-spans-clause-power g c = λ unopened.
    let old = g.D.Disk.events c.args.self.now.bytes.disk in
    let bytes = c.args.bytes.now in
    or_failed (λ x. Becomes bytes) (BecomesOrNot bytes) c.from_residual.result (g.L.Location.syncs c.args.self.now.place) old old c.from_residual.ensures.0 (λ ordered d w honest end other now any left. inl left)

pub returns-in-Unopened-clause-power : goal.returns-in-Unopened-clause-power
returns-in-Unopened-clause-power g c = λ unopened. c.put_anew.ensures.power

pub returns-in-Missing-clause-power : goal.returns-in-Missing-clause-power
returns-in-Missing-clause-power g c = λ unopened. let other = sym unopened ∙ sym c.replace.ensures.value ∙ c.in-Missing.is in absurd cc

pub returns-in-Open-clause-power : goal.returns-in-Open-clause-power
returns-in-Open-clause-power g c = λ unopened. let other = sym unopened ∙ sym c.replace.ensures.value ∙ c.in-Open.is in absurd cc

pub returns-clause-power : goal.returns-clause-power
returns-clause-power g c = λ unopened. let other = sym unopened ∙ sym c.replace.ensures.value ∙ c.in-Kept.is in absurd cc

pub returns-in_err-spans-clause-safe : goal.returns-in_err-spans-clause-safe
returns-in_err-spans-clause-safe g c = unchanged_safely c.from_residual.result c.args.self.now.found c.args.self.now.found c.args.changed.now c.args.bytes.now (g.L.Location.syncs c.args.self.now.place) (g.D.Disk.events c.args.self.now.bytes.disk) c.from_residual.ensures.0

pub returns-in-Unopened-clause-safe : goal.returns-in-Unopened-clause-safe
returns-in-Unopened-clause-safe g c =
    let new = g.D.Disk.events c.put_anew.new.self.bytes.disk in
    found_safely c.put_anew.result c.args.self.now.found Unopened c.put_anew.new.self.found c.args.changed.now c.args.bytes.now (g.L.Location.syncs c.args.self.now.place) (g.D.Disk.events c.args.self.now.bytes.disk) new (sym c.replace.ensures.value ∙ c.in-Unopened.is)
    (became_safely c.put_anew.result c.put_anew.new.self.found c.args.changed.now c.args.bytes.now (g.L.Location.syncs c.args.self.now.place) (g.D.Disk.events c.args.self.now.bytes.disk) new c.put_anew.ensures.began c.put_anew.ensures.power)

pub returns-in-Missing-clause-safe : goal.returns-in-Missing-clause-safe
returns-in-Missing-clause-safe g c = grind (arith, common_steps, found_safely, missing_safely)

pub returns-in-Unwritable-clause-safe : goal.returns-in-Unwritable-clause-safe
returns-in-Unwritable-clause-safe g c = grind (arith, common_steps, as_left)

pub returns-in-Open-clause-safe : goal.returns-in-Open-clause-safe
returns-in-Open-clause-safe g c =
    let new = g.D.Disk.events c.put_open.new.self.bytes.disk in
    let bytes = c.args.bytes.now in
    let are = subst (λ (xs : List Span). AreOf (length bytes) c.args.changed.now xs) (sym c.deref.ensures.value) c.in_ok-spans.ensures in
    found_safely c.put_open.result c.args.self.now.found (Open c.in-Open.base) c.put_open.new.self.found c.args.changed.now bytes (g.L.Location.syncs c.args.self.now.place) (g.D.Disk.events c.args.self.now.bytes.disk) new (sym c.replace.ensures.value ∙ c.in-Open.is)
    (changed_safely c.file_laws.ensures (Open c.in-Open.base) c.put_open.new.self.found c.args.changed.now c.deref.result.now bytes are (g.L.Location.syncs c.args.self.now.place) (g.D.Disk.events c.args.self.now.bytes.disk) new tt c.put_open.result c.put_open.ensures.open c.put_open.ensures.does)

pub returns-clause-safe : goal.returns-clause-safe
returns-clause-safe g c =
    let new = g.D.Disk.events c.put_kept.new.self.bytes.disk in
    let bytes = c.args.bytes.now in
    let are = subst (λ (xs : List Span). AreOf (length bytes) c.args.changed.now xs) (sym c.deref-in-Kept.ensures.value) c.in_ok-spans.ensures in
    found_safely c.put_kept.result c.args.self.now.found (Kept c.in-Kept.base c.in-Kept.log) c.put_kept.new.self.found c.args.changed.now bytes (g.L.Location.syncs c.args.self.now.place) (g.D.Disk.events c.args.self.now.bytes.disk) new (sym c.replace.ensures.value ∙ c.in-Kept.is)
    (changed_safely c.file_laws.ensures (Kept c.in-Kept.base c.in-Kept.log) c.put_kept.new.self.found c.args.changed.now c.deref-in-Kept.result.now bytes are (g.L.Location.syncs c.args.self.now.place) (g.D.Disk.events c.args.self.now.bytes.disk) new tt c.put_kept.result c.put_kept.ensures.open c.put_kept.ensures.does)

pub returns-in_err-spans-clause-makes : goal.returns-in_err-spans-clause-makes
returns-in_err-spans-clause-makes g c = unmade_safely c.from_residual.result c.args.self.now.found c.args.self.now.found c.args.bytes.now (g.L.Location.syncs c.args.self.now.place) (g.D.Disk.events c.args.self.now.bytes.disk) c.from_residual.ensures.0

pub returns-in-Unopened-clause-makes : goal.returns-in-Unopened-clause-makes
returns-in-Unopened-clause-makes g c = grind (arith, common_steps, found_making, made_safely)

pub returns-in-Missing-clause-makes : goal.returns-in-Missing-clause-makes
returns-in-Missing-clause-makes g c = grind (arith, common_steps, found_making, made_safely)

pub returns-in-Unwritable-clause-makes : goal.returns-in-Unwritable-clause-makes
returns-in-Unwritable-clause-makes g c = unmade_safely (Err c.in-Unwritable.error) c.args.self.now.found Unopened c.args.bytes.now (g.L.Location.syncs c.args.self.now.place) (g.D.Disk.events c.args.self.now.bytes.disk) refl

pub returns-in-Open-clause-makes : goal.returns-in-Open-clause-makes
returns-in-Open-clause-makes g c = grind (arith, common_steps, open_making)

pub returns-clause-makes : goal.returns-clause-makes
returns-clause-makes g c = grind (arith, common_steps, open_making)
