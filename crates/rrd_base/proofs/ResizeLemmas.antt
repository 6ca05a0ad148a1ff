-- An archive with another number of rows.
use Rattle.std.specs.Prelude.{◌≡◌, ℕ, zero, suc, ◌+◌, ◌-◌, ◌*◌, ◌/◌, ◌<◌, ◌≤◌, List, [], ◌∷◌, ◌++◌, length, drop, replicate, sum, None}
use Rattle.rrd_base.proofs.Names.{refl, ◌∙◌, ap, get_or, set, arith, length-drop, fold, AllByRecursion, Cell, newest_rows, width, Rra, Content, Change, Resizing, moved, rows_changed, rows_of_archives, rows_at, with_rows_at, HasFewRows, IsValid, IsValidArchive, verdict, ResizeChanges, newest_of, rows_then}
use Rattle.rrd_base.proofs.RraLemmas.{width_is}

-- ---- the number of all rows

sum_more : (x : ℕ) (xs : List ℕ) → sum (x ∷ xs) ≡ x + sum xs
sum_more x xs = from_any (0 + x) xs ∙ ap (λ n. n + sum xs) {x = 0 + x} {y = x} (omega arith) where
  from_any : (a : ℕ) (xs : List ℕ) → fold ◌+◌ a xs ≡ a + sum xs
  from_any a [] = omega arith
  from_any a (x ∷ xs) = from_any (a + x) xs ∙ omega (arith, from_any (0 + x) xs)

-- all numbers of rows, an archive's being another
pub sum_set : (k new : ℕ) (rows : List ℕ) → k < length rows → sum (set rows k new) + get_or rows k 0 ≡ sum rows + new
sum_set k new [] h = absurd (omega arith)
sum_set zero new (r ∷ rows) h = omega (arith, sum_more new rows, sum_more r rows)
sum_set (suc k) new (r ∷ rows) h = grind (arith, sum_set k new rows (omega arith), sum_more)

-- and with one more
pub sum_push : (rows : List ℕ) (row : ℕ) → sum (rows ++ row ∷ []) ≡ sum rows + row
sum_push [] row = omega (arith, sum_more row [])
sum_push (r ∷ rows) row = omega (arith, sum_push rows row, sum_more r rows, sum_more r (rows ++ row ∷ []))

pub changed_few : (change : Change) (old rows : ℕ) → rows_changed change old rows ≤ old + rows
changed_few change old rows = grind arith

pub rows_at_archive : (archives : List Rra) (k : ℕ) (d : Rra) → k < length archives → get_or (rows_of_archives archives) k 0 ≡ (get_or archives k d).def.rows
rows_at_archive [] k d h = absurd (omega arith)
rows_at_archive (a ∷ rest) zero d h = refl
rows_at_archive (a ∷ rest) (suc k) d h = rows_at_archive rest k d (omega arith)

pub rows_of_place : (archives : List Rra) (k : ℕ) (d : Rra) → k < length archives → (get_or archives k d).rows ≡ rows_at archives k
rows_of_place [] k d h = absurd (omega arith)
rows_of_place (a ∷ rest) zero d h = refl
rows_of_place (a ∷ rest) (suc k) d h = rows_of_place rest k d (omega arith)

pub some_of_all : (archives : List Rra) (k : ℕ) (d : Rra) → k < length archives → (get_or archives k d).def.rows ≤ sum (rows_of_archives archives)
some_of_all [] k d h = absurd (omega arith)
some_of_all (a ∷ rest) zero d h = omega (arith, sum_more a.def.rows (rows_of_archives rest))
some_of_all (a ∷ rest) (suc k) d h = omega (arith, some_of_all rest k d (omega arith), sum_more a.def.rows (rows_of_archives rest))

pub few_sum : (archives : List Rra) → AllByRecursion HasFewRows archives → sum (rows_of_archives archives) ≤ length archives * 1000000
few_sum [] is = omega arith
few_sum (a ∷ rest) is = let f = is.0.few in omega (arith, f, few_sum rest is.1, sum_more a.def.rows (rows_of_archives rest))

-- ---- the rows

-- the rows of a valid archive have a cell for each source
width_at : (sources steps k : ℕ) (archives : List Rra) → AllByRecursion (IsValidArchive sources steps) archives → k < length archives → width (rows_at archives k) ≡ sources
width_at sources steps k [] is h = absurd (omega arith)
width_at sources steps zero (a ∷ rest) is h = width_is sources a.rows (omega (arith, is.0.rows_are, is.0.some_rows)) is.0.each_row
width_at sources steps (suc k) (a ∷ rest) is h = width_at sources steps k rest is.1 (omega arith)

-- the newest rows are those of the law
newest_is : (base : Content) (k n : ℕ) → IsValid base → k < length base.archives → newest_rows n (rows_at base.archives k) ≡ newest_of base k n
newest_is base k n is there =
    let rows = rows_at base.archives k in
    let sources = length base.sources in
    let newest = drop (length rows - n) rows in
    ap (λ m. replicate (n - length rows) (replicate m Cell.Unknown) ++ newest) (width_at sources (base.last / base.step) k base.archives is.archives_are there)
    ∙ ap (λ m. replicate m (replicate sources Cell.Unknown) ++ newest) {x = n - length rows} {y = n - length newest} (omega (arith, length-drop (length rows - n) rows))

-- so an archive that is given them makes the content of the resize
pub resized_is : (changes : (base : Content) (archive : ℕ) (change : Change) (rows : ℕ) → ResizeChanges base archive change rows) (now : Content) (k : ℕ) (change : Change) (rows : ℕ) (new : List (List Cell)) → IsValid now → verdict now (Resizing k change rows) ≡ None → k < length now.archives → new ≡ newest_rows (rows_then now k change rows) (rows_at now.archives k) → record now { archives = with_rows_at now.archives k new } ≡ moved now (Resizing k change rows)
resized_is changes now k change rows new is h there e = cc (e ∙ newest_is now k (rows_then now k change rows) is there, changes now k change rows is h)
