use Rattle.rrd_base.proofs.Common.{◌≡◌, ◌∙◌, sym, ap, ◌-◌, ◌<◌, length, map, cond, Some, None, arith, slice_get, option_copied, lt-ltb, length-reverse, length-map, entry_of, journal_of, Stored, journal_at}
use Rattle.rrd_base.proofs.database.Database.entry.Goals as goal

pub returns : goal.returns
returns c =
    let items = c.self.inside.journal.items in
    let k = c.args.number in
    let at = length items - k - 1 in
    let journal : journal_of items ≡ c.args.self.now.journal = ap (λ (d : Stored). d.journal) c.self.view_is in
    let within : k < length items = omega (arith, c.requires, ap length journal, length-reverse (map entry_of items), length-map items entry_of) in
    let here : Some c.unwrap.result.now ≡ slice_get items at
    = sym (ap option_copied c.unwrap.ensures) ∙ c.nth_back.ensures ∙ ap (λ b. cond b (slice_get items at) None) (lt-ltb k (length items) within) in
    journal_at entry_of items k c.unwrap.result.now within here ∙ ap (λ j. slice_get j k) journal
