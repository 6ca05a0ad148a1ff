-- Lemmas on whether a file has a mark.
use Rattle.rrd_change.proofs.Names.{arith, ◌≡◌, ◌↔◌, ℕ, true, false, List, Option, IsSome, IsTrue, refl, sym, true≢false, is_some, begins_with, IsOffset, cut_mark, log_mark, mark_of, spelled_tail}

pub by_cut : (file : List ℕ) → begins_with file cut_mark ≡ true → IsSome (mark_of file)
unfolding mark_of
by_cut file begins = rw begins refl

pub by_log : (file : List ℕ) → begins_with file cut_mark ≡ false → begins_with file (log_mark (spelled_tail file)) ≡ true → IsSome (mark_of file)
unfolding mark_of
by_log file cut begins = rw (cut, begins) refl

pub by_none : (file : List ℕ) → begins_with file cut_mark ≡ false → begins_with file (log_mark (spelled_tail file)) ≡ false → IsSome (mark_of file) → ⊥
unfolding mark_of
by_none file cut begins some = let no = rw (cut, begins) at some in absurd (true≢false (sym no))

-- a file without a cut mark, by what was looked for
pub log_or_none : (file : List ℕ) (found : Option ℕ) → begins_with file cut_mark ≡ false → IsOffset found file → IsTrue (is_some found) ↔ IsSome (mark_of file)
log_or_none file found cut is = grind (arith, true≢false, by_none, by_log)
