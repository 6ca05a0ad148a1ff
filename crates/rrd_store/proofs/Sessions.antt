-- The database that stays in memory is the one that reading the storage gives.
use Rattle.rrd_store.proofs.Names.{arith, ◌≡◌, ℕ, false, List, Option, Some, None, Result, Ok, Err, IfSome, refl, sym, ap, subst, Stored, newest, IsValidStored, LayoutIsItsFile, layout, database_left, has_changed, Outcome, Printed, Changed, written, IsRead, kept_by, kept_unless, Ends, Becomes, Held, Leaves, Stays, TaskFault}
use Rattle.rrd_tool.specs.declared.execution.Outcome.TheVariants.{Refused as WasRefused}
use Rattle.rrd_store.specs.declared.faults.TaskFault.TheVariants as task

-- what was known is as it was, and what was not known is not known
pub stays_same : (old new : Option Held) → (old ≡ None → new ≡ None) → Stays old new → new ≡ old
stays_same None new unknown stays = unknown refl
stays_same (Some old) None unknown stays = absurd stays
stays_same (Some old) (Some new) unknown stays = rw stays refl

stays_read : (old new : Option Held) (database : Option Stored) → (old ≡ None → new ≡ None) → Stays old new → IsRead old database → IsRead new database
stays_read old new database unknown stays is = subst (λ (held : Option Held). IsRead held database) (sym (stays_same old new unknown stays)) is

-- a storage reads as the database whose layout was written
written_read : (old new : Option Held) (d : Stored) → (old ≡ None → new ≡ None) → Becomes old new (layout d) → IsValidStored d → LayoutIsItsFile newest d → IsRead new (Some d)
written_read None new d unknown became valid file = rw (unknown refl) valid
written_read (Some old) new d unknown became valid file = rw became (file valid)

-- ---- a command

module _ (old new : Option Held) (other : Option Stored) (unknown : old ≡ None → new ≡ None) (beside : IsRead old other) where
  -- a database that is as it was
  same_kept : (database : Option Stored) (outcome : Outcome) (end : Result (Unit {0}) TaskFault) → database_left outcome ≡ database → Stays old new → IsRead old database
      → IsRead new (kept_by other outcome end)
  same_kept (Some d) outcome (Ok x) left stays is = rw left (stays_read old new (Some d) unknown stays is)
  same_kept None outcome (Ok x) left stays is = rw left (stays_read old new other unknown stays beside)
  same_kept database outcome (Err task.CannotWrite) left stays is = tt
  same_kept (Some d) outcome (Err task.CannotOpen) left stays is = rw left (stays_read old new (Some d) unknown stays is)
  same_kept None outcome (Err task.CannotOpen) left stays is = rw left (stays_read old new other unknown stays beside)
  same_kept (Some d) outcome (Err (task.Command fault)) left stays is = rw left (stays_read old new (Some d) unknown stays is)
  same_kept None outcome (Err (task.Command fault)) left stays is = rw left (stays_read old new other unknown stays beside)
  same_kept (Some d) outcome (Err (task.Stream fault)) left stays is = rw left (stays_read old new (Some d) unknown stays is)
  same_kept None outcome (Err (task.Stream fault)) left stays is = rw left (stays_read old new other unknown stays beside)
  same_kept (Some d) outcome (Err (task.File fault)) left stays is = rw left (stays_read old new (Some d) unknown stays is)
  same_kept None outcome (Err (task.File fault)) left stays is = rw left (stays_read old new other unknown stays beside)

  -- a database that was to be written
  changed_kept : (d : Stored) (end : Result (Unit {0}) TaskFault) → Leaves (Some d) old new end → IsValidStored d → LayoutIsItsFile newest d
      → IsRead new (kept_by other (Changed d) end)
  changed_kept d (Ok x) left valid file = written_read old new d unknown left valid file
  changed_kept d (Err task.CannotWrite) left valid file = tt
  changed_kept d (Err task.CannotOpen) left valid file = absurd left
  changed_kept d (Err (task.Command fault)) left valid file = absurd left
  changed_kept d (Err (task.Stream fault)) left valid file = absurd left
  changed_kept d (Err (task.File fault)) left valid file = absurd left

  printed_stays : (d : Stored) (text : List ℕ) (end : Result (Unit {0}) TaskFault) → Ends (Printed d) text old new end → Stays old new
  printed_stays d text (Ok x) ends = ends
  printed_stays d text (Err fault) ends = ends.2

  pub kept_read : (outcome : Outcome) (text : List ℕ) (end : Result (Unit {0}) TaskFault) → Ends outcome text old new end
      → (has_changed outcome ≡ false → IsRead old (database_left outcome))
      → ((d : Stored) → database_left outcome ≡ Some d → IsValidStored d) → ((d : Stored) → LayoutIsItsFile newest d)
      → IsRead new (kept_by other outcome end)
  kept_read (Printed d) text end ends same valid file = same_kept (Some d) (Printed d) end refl (printed_stays d text end ends) (same refl)
  kept_read (Changed d) text end ends same valid file = changed_kept d end ends (valid d refl) (file d)
  kept_read (WasRefused database fault) text end ends same valid file = same_kept database (WasRefused database fault) end refl ends.1 (same refl)

-- ---- a batch

pub lines_read : (old new : Option Held) (last kept : Option Stored) (unstored : Option TaskFault) → (old ≡ None → new ≡ None) → Leaves last old new (written unstored)
    → kept ≡ kept_unless unstored last → IfSome kept IsValidStored → ((d : Stored) → LayoutIsItsFile newest d) → IsRead new kept
lines_read old new None kept None unknown left is valid file = rw is tt
lines_read old new (Some d) kept None unknown left is valid file = grind arith
lines_read old new last kept (Some fault) unknown left is valid file = rw is tt

-- ---- results

abbrev ok_or : {T E : Type 0} → T → Result T E → T
ok_or or (Ok x) = x
ok_or or (Err e) = or

pub ok_same : {T E : Type 0} (a b : T) → ◌≡◌ {A = Result T E} (Ok a) (Ok b) → a ≡ b
ok_same {T} {E} a b is = ap (ok_or {T = T} {E = E} a) is
