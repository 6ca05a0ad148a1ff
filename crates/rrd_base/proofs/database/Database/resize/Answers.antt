use Rattle.rrd_base.proofs.Common.{◌≡◌, refl, sym, ◌∙◌, ap, subst, Resizing, moved, entry_of, Stored, changed, IsValid, added, resized_is}
use Rattle.rrd_base.specs.declared.journal.Entry.TheVariants as entry
use Rattle.rrd_spec.specs.Journal.Entries as entries
use Rattle.rrd_spec.specs.Journal.Entries.{entry as entry_for}
use Rattle.rrd_base.proofs.database.Database.resize.Goals as goal

pub resize-old-requires-clause-valid : goal.resize-old-requires-clause-valid
resize-old-requires-clause-valid c =
    let X = c.self.inside.content in
    let accepted = sym c.in_ok-check_resize.ensures in
    let resized = resized_is c.resize_changes_rows.ensures.changes X c.args.archive c.args.change c.args.rows c.in_ok-new.new c.self.invariant.valid.content_is accepted (c.resize_changes_rows.ensures.fits X c.args.archive c.args.change c.args.rows c.self.invariant.valid.content_is accepted).there c.in_ok-new.ensures in
    subst IsValid (sym resized) (c.stays_valid.ensures X (Resizing c.args.archive c.args.change c.args.rows) c.self.invariant.valid.content_is accepted)

pub invariant_of-self : goal.invariant_of-self
invariant_of-self c =
    let d = c.self.inside in
    let command = Resizing c.args.archive c.args.change c.args.rows in
    let accepted = sym c.in_ok-check_resize.ensures in
    let resized = resized_is c.resize_changes_rows.ensures.changes d.content c.args.archive c.args.change c.args.rows c.in_ok-new.new c.self.invariant.valid.content_is accepted (c.resize_changes_rows.ensures.fits d.content c.args.archive c.args.change c.args.rows c.self.invariant.valid.content_is accepted).there c.in_ok-new.ensures in
    let this : entry_of (entry.Resize c.args.archive c.resize-old.result) ≡ entry_for d.content command = ap (entries.ResizeEntry c.args.archive) c.resize-old.ensures.old in
    let one = added c.database_stays.ensures.changed d.content d.journal.items command (entry.Resize c.args.archive c.resize-old.result) c.self.invariant.valid accepted this in
    let now : c.resize-old.new.self ≡ moved d.content command = c.resize-old.ensures.content ∙ resized in
    rw (now, c.push_back-oldest.ensures.items, c.self.invariant.places) (record {
      places = refl;
      valid = one.after;
    })

pub returns-clause-ok : goal.returns-clause-ok
returns-clause-ok c =
    let d = c.self.inside in
    let command = Resizing c.args.archive c.args.change c.args.rows in
    let accepted = sym c.in_ok-check_resize.ensures in
    let resized = resized_is c.resize_changes_rows.ensures.changes d.content c.args.archive c.args.change c.args.rows c.in_ok-new.new c.self.invariant.valid.content_is accepted (c.resize_changes_rows.ensures.fits d.content c.args.archive c.args.change c.args.rows c.self.invariant.valid.content_is accepted).there c.in_ok-new.ensures in
    let this : entry_of (entry.Resize c.args.archive c.resize-old.result) ≡ entry_for d.content command = ap (entries.ResizeEntry c.args.archive) c.resize-old.ensures.old in
    let one = added c.database_stays.ensures.changed d.content d.journal.items command (entry.Resize c.args.archive c.resize-old.result) c.self.invariant.valid accepted this in
    let now : c.resize-old.new.self ≡ moved d.content command = c.resize-old.ensures.content ∙ resized in
    rw (now, c.push_back-oldest.ensures.items, c.self.invariant.places)
    (ap (λ j. let k : Stored = record { content = moved d.content command; journal = j } in k) one.journal_is
    ∙ ap (λ (k : Stored). changed k command) c.self.view_is)
