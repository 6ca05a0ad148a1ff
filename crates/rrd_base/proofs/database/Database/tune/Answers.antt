use Rattle.rrd_base.proofs.Common.{◌≡◌, refl, sym, ◌∙◌, ap, TuningBy, moved, Stored, changed, added}
use Rattle.rrd_base.proofs.database.Database.tune.Goals as goal

pub invariant_of-self-2 : goal.invariant_of-self-2
invariant_of-self-2 c =
    let d = c.self.inside in
    let tuning = c.args.tuning.now in
    let accepted = sym c.in_ok-check_tune.ensures in
    let one = added c.database_stays.ensures.changed d.content d.journal.items (TuningBy tuning) c.in_ok-entry.entry c.self.invariant.valid accepted c.in_ok-entry.ensures.entry in
    let now : c.tune.new.self ≡ moved d.content (TuningBy tuning) = c.in_ok-entry.ensures.ok in
    rw (now, c.push_back-oldest.ensures.items, c.self.invariant.places) (record {
      places = refl;
      valid = one.after;
    })

pub returns-clause-ok : goal.returns-clause-ok
returns-clause-ok c =
    let d = c.self.inside in
    let tuning = c.args.tuning.now in
    let accepted = sym c.in_ok-check_tune.ensures in
    let one = added c.database_stays.ensures.changed d.content d.journal.items (TuningBy tuning) c.in_ok-entry.entry c.self.invariant.valid accepted c.in_ok-entry.ensures.entry in
    let now : c.tune.new.self ≡ moved d.content (TuningBy tuning) = c.in_ok-entry.ensures.ok in
    rw (now, c.push_back-oldest.ensures.items, c.self.invariant.places)
    (ap (λ j. let k : Stored = record { content = moved d.content (TuningBy tuning); journal = j } in k) one.journal_is
    ∙ ap (λ (k : Stored). changed k (TuningBy tuning)) c.self.view_is)
