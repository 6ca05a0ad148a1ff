-- What an entry of a valid database keeps to.
use Rattle.std.specs.Prelude.{◌≡◌, ◌<◌, ◌≤◌, ◌^◌, ◌+◌, ℕ, zero, suc, List, [], ◌∷◌, Some, length, slice_get}
use Rattle.rrd_file.proofs.Names.{ap, subst, get_or, arith, AllByRecursion, SavedSource, Rra, Content, Entry, RemovedEntry, undone, IsValid, IsValidJournal, IsValidDatabase, Fits, Rise, FitsArchive, HasSmallNumber, IsEntryOfSome}
use Rattle.rrd_file.proofs.Told.{some_is}
use Rattle.rrd_spec.proofs.ArchiveTunes.{inserted}

small_in : (olds : List SavedSource) (i : ℕ) (x : SavedSource) → AllByRecursion HasSmallNumber olds → i < length olds → (get_or olds i x).number < 2 ^ 16
small_in [] i x all h = absurd (omega arith)
small_in (y ∷ olds) zero x all h = all.0
small_in (y ∷ olds) (suc i) x all h = small_in olds i x all.1 (omega arith)

pub small_at : (olds : List SavedSource) (i : ℕ) (x : SavedSource) → AllByRecursion HasSmallNumber olds → i < length olds → x ≡ get_or olds i x → x.number < 2 ^ 16
small_at olds i x all h is = omega (arith, small_in olds i x all h, ap (λ (y : SavedSource). y.number) is)

some_entry : (now : Content) (journal : List Entry) (i : ℕ) (e : Entry) → IsValid now → IsValidJournal now journal → slice_get journal i ≡ Some e → IsEntryOfSome e
some_entry now [] i e v j is = absurd cc
some_entry now (x ∷ journal) zero e v j is = record { now = now; valid = v; fits = subst (Fits now) (some_is x e is) j.0; before = subst (λ (y : Entry). IsValid (undone now y)) (some_is x e is) j.1 }
some_entry now (x ∷ journal) (suc i) e v j is = some_entry (undone now x) journal i e j.1 j.2 is

pub entry_of_some : (now : Content) (journal : List Entry) (i : ℕ) (e : Entry) → IsValidDatabase now journal → slice_get journal i ≡ Some e → IsEntryOfSome e
entry_of_some now journal i e v is = some_entry now journal i e v.content_is v.journal_is is

-- numbers that rise below a small limit
pub small_numbers : (lowest limit : ℕ) (olds : List SavedSource) → limit ≤ 64 → Rise lowest limit olds → AllByRecursion HasSmallNumber olds
small_numbers lowest limit [] few r = tt
small_numbers lowest limit (old ∷ olds) few r = (omega (arith, r.1), small_numbers (old.number + 1) limit olds few r.2)

pub removed_fits : (now : Content) (number : ℕ) (archive : Rra) → number ≤ length now.archives → IsValid (undone now (RemovedEntry number archive)) → FitsArchive archive.def
removed_fits now number archive there is = grind (arith, inserted)
