-- How many cells an entry holds.
use Rattle.std.specs.Prelude.{◌≡◌, ℕ, zero, suc, ◌+◌, ◌*◌, ◌<◌, List, [], ◌∷◌, length, map, min, take}
use Rattle.rrd_base.proofs.Names.{◌∙◌, ap, get_or, arith, AllByRecursion, Cell, HasWidth, Rra, SavedArchive, cells_in, cells_saved, saved, rows_between, IsValidArchive, rows_wide, All-take}

-- rows of as many cells each
pub cells_wide : (sources : ℕ) (rows : List (List Cell)) → HasWidth sources rows → cells_in rows ≡ length rows * sources
cells_wide sources [] is = omega arith
cells_wide sources (row ∷ rows) is = omega (arith, is.0, cells_wide sources rows is.1)

-- one archive more
pub one_more : (saved : List SavedArchive) (i : ℕ) (d : SavedArchive) → i < length saved → cells_saved (take (i + 1) saved) ≡ cells_saved (take i saved) + cells_in (get_or saved i d).rows
one_more saved i d h = ap (λ n. cells_saved (take n saved)) {x = i + 1} {y = suc i} (omega arith) ∙ next saved i d h where
  next : (saved : List SavedArchive) (i : ℕ) (d : SavedArchive) → i < length saved → cells_saved (take (suc i) saved) ≡ cells_saved (take i saved) + cells_in (get_or saved i d).rows
  next [] i d h = absurd (omega arith)
  next (s ∷ rest) zero d h = omega arith
  next (s ∷ rest) (suc i) d h = omega (arith, next rest i d (omega arith))

pub wide_at : (sources : ℕ) (saved : List SavedArchive) (i : ℕ) (d : SavedArchive) → i < length saved → AllByRecursion (λ (old : SavedArchive). HasWidth sources old.rows) saved → HasWidth sources (get_or saved i d).rows
wide_at sources [] i d h is = absurd (omega arith)
wide_at sources (s ∷ rest) zero d h is = is.0
wide_at sources (s ∷ rest) (suc i) d h is = wide_at sources rest i d (omega arith) is.1

-- ---- what an update saves of valid archives

pub wide_saved : (sources steps step from to : ℕ) (archives : List Rra) → AllByRecursion (IsValidArchive sources steps) archives → AllByRecursion (λ (old : SavedArchive). HasWidth sources old.rows) (map (saved step from to) archives)
wide_saved sources steps step from to [] is = tt
wide_saved sources steps step from to (archive ∷ archives) is =
    (All-take _ (min (rows_between step archive.def from to) (length archive.rows)) archive.rows (rows_wide sources archive.rows is.0.each_row), wide_saved sources steps step from to archives is.1)
