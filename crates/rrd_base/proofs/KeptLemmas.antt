-- A database's journal, when an update is added and when the newest entry is taken.
use Rattle.std.proofs.Common.{arith}
use Rattle.std.specs.Prelude.{◌≡◌, ◌-◌, ◌<◌, List, [], ◌∷◌, ◌++◌, length, take, Some, None, slice_get}
use Rattle.rrd_base.proofs.Names.{sym, ◌∙◌, ap, Entry, Update, Content, DatabaseChange, Updating, moved, undone, before, update_of, entry_of, CanUndo, journal_of, last_time, DatabaseStays, RevertStays, IsValid, Fits, IsValidDatabase, verdict}
use Rattle.circular_buffer.specs.Buffer.{keep_last}
use Rattle.rrd_base.specs.declared.journal.Entry.TheVariants as entry
use Rattle.rrd_base.specs.declared.journal.BeforeUpdate.{BeforeUpdate}
use Rattle.rrd_spec.specs.Journal.Entries as entries
use Rattle.rrd_spec.specs.Journal.Entries.{entry as entry_for}
use Rattle.rrd_base.proofs.DatabaseLemmas.{moved_last}
use Rattle.rrd_base.proofs.PutBack.{can_put_back_each}
use Rattle.rrd_base.proofs.JournalLemmas.{journal_push, journal_pop}

-- ---- the newest entry is taken

can_undo : (now : Content) (e : Entry) → IsValid now → Fits now (entry_of e) → CanUndo now.archives e
can_undo now x is fits = grind (arith, can_put_back_each)

pub record Newest (now : Content) (items : List Entry) (e : Entry) : Type 0 where
  pub newest_is : journal_of items ≡ entry_of e ∷ journal_of (take (length items - 1) items)
  pub can : CanUndo now.archives e
  pub valid : IsValid (undone now (entry_of e))
  pub after : IsValidDatabase (undone now (entry_of e)) (journal_of (take (length items - 1) items))

-- by the law of reverts
pub newest : (reverted_stays : (now : Content) (journal : List entries.Entry) → RevertStays now journal) (now : Content) (items : List Entry) (e : Entry) → IsValidDatabase now (journal_of items) → Some e ≡ slice_get items (length items - 1) → Newest now items e
newest reverted_stays now items e is h = grind (arith, journal_pop entry_of items e h, can_undo)

-- ---- an entry is added

pub record Added (now : Content) (items : List Entry) (command : DatabaseChange) (e : Entry) : Type 0 where
  pub journal_is : journal_of (keep_last now.depth (items ++ e ∷ [])) ≡ take now.depth (entry_for now command ∷ journal_of items)
  pub after : IsValidDatabase (moved now command) (journal_of (keep_last now.depth (items ++ e ∷ [])))

-- by the law of commands
pub added : (changed_stays : (now : Content) (journal : List entries.Entry) (command : DatabaseChange) → DatabaseStays now journal command) (now : Content) (items : List Entry) (command : DatabaseChange) (e : Entry) → IsValidDatabase now (journal_of items) → verdict now command ≡ None → entry_of e ≡ entry_for now command → Added now items command e
added changed_stays now items command e is accepted this = grind (arith, journal_push, moved)

-- what an update saved is its entry
pub update_entry : (now : Content) (update : Update) (b : BeforeUpdate) → 0 < length update.samples → update_of b ≡ before now (last_time update.samples) → entry_of (entry.Update b) ≡ entry_for now (Updating update)
update_entry now update b some e = ap entries.UpdateEntry (e ∙ ap (before now) (sym (moved_last now update some)))
