use Rattle.rrd_file.proofs.Common.{◌≡◌, ◌∙◌, ◌⊎◌, ◌∷◌, [], sym, ap, subst, length, length-append, arith, EntryDue, NothingDue, Filed, due, after_entry, more_entries}
use Rattle.rrd_file.proofs.read_entries.Goals as goal

pub loop-input-smaller : goal.loop-input-smaller
loop-input-smaller g c =
    let build = c.loop-input.build in
    let is_due : due build ≡ EntryDue = sym c.due.ensures ∙ c.in-EntryDue.is in
    let one = c.in_ok-read_entry.ensures.one_more in
    omega (arith, ap (λ (f : Filed). f.header.entries) one.more, ap (λ (f : Filed). length f.entries) one.more, length-append build.entries (one.entry ∷ []), more_entries build is_due)

pub loop-input-preserved : goal.loop-input-preserved
loop-input-preserved g c =
    let build = c.loop-input.build in
    let is_due : due build ≡ EntryDue = sym c.due.ensures ∙ c.in-EntryDue.is in
    let one = c.in_ok-read_entry.ensures.one_more in (
      subst (λ (f : Filed). (due f ≡ EntryDue) ⊎ (due f ≡ NothingDue)) (sym one.more) (after_entry build one.entry is_due),
      λ bytes st. c.in_ok-read_entry.ensures.steps bytes (c.loop-input.invariant.1 bytes st),
    )
