-- What a valid database's numbers are, so that its bytes are counted.
use Rattle.std.specs.Prelude.{◌≡◌, ◌+◌, ◌*◌, ◌/◌, ◌<◌, ℕ, zero, suc, List, [], ◌∷◌, Some, length, drop, take, slice_get}
use Rattle.rrd_file.proofs.Names.{◌∙◌, ap, refl, sym, get_or, arith, length-append, AllByRecursion, flat_map, sum_by, add-mul, flat_map-cons, sum_by-append, take-append-drop, sum_by-cons, sum_by_more, get_or_from_slice_get, slice_get_within, mul-le, Cell, all_cells, cells_by_slot, Content, Rra, SavedArchive, AsManyCells, resolution, FitEach, IsValid, IsValidArchive, IsWide, rows_of}
use Rattle.rrd_base.proofs.Dues.{one_each}

-- the sum of one item more
pub sum_split : {A : Type 0} (f : A → ℕ) (n : ℕ) (xs : List A) → sum_by f (take n xs) + sum_by f (drop n xs) ≡ sum_by f xs
sum_split f n xs = sym (sum_by-append f (take n xs) (drop n xs)) ∙ ap (sum_by f) (take-append-drop n xs)

pub sum_next : {A : Type 0} (f : A → ℕ) (xs : List A) (i : ℕ) (x : A) → slice_get xs i ≡ Some x → sum_by f (take (i + 1) xs) ≡ sum_by f (take i xs) + f x
sum_next f xs i x is = sum_by_more f xs i x (slice_get_within xs i x is) ∙ ap (λ y. sum_by f (take i xs) + f y) (get_or_from_slice_get xs i x x is)

-- ---- what an update saved

pub record AreWide (sources count : ℕ) (olds : List SavedArchive) : Type 0 where
  pub many : length olds ≡ count
  pub wide : AllByRecursion (IsWide sources) olds

pub saved_wide : (step sources from to : ℕ) (archives : List Rra) (olds : List SavedArchive) → FitEach step sources from to archives olds → AreWide sources (length archives) olds
saved_wide step sources from to [] [] fit = record { many = refl; wide = tt }
saved_wide step sources from to (archive ∷ archives) (old ∷ olds) fit = grind (arith, saved_wide step sources from to archives olds fit.1)
saved_wide step sources from to x y fit = absurd fit

pub wide_at : (sources : ℕ) (olds : List SavedArchive) (i : ℕ) (d : SavedArchive) → i < length olds → AllByRecursion (IsWide sources) olds → IsWide sources (get_or olds i d)
wide_at sources [] i d h are = absurd (omega arith)
wide_at sources (old ∷ olds) zero d h are = are.0
wide_at sources (old ∷ olds) (suc i) d h are = wide_at sources olds i d (omega arith) are.1

-- ---- rows and cells

-- an archive has as many cells as rows and sources
abbrev pub ManyCells : Type 0
ManyCells = (resolution last sources : ℕ) (rows : List (List Cell)) → AsManyCells resolution last sources rows

pub some_seconds : (step steps : ℕ) → 0 < step → 0 < steps → 0 < step * steps
some_seconds step steps p q = omega (arith, mul-le 1 1 step steps (omega (arith, p)) (omega (arith, q)))

archives_cells : ManyCells → (sources step last steps : ℕ) (archives : List Rra) → 0 < step → AllByRecursion (IsValidArchive sources steps) archives → length (flat_map (cells_by_slot step last) archives) ≡ sum_by rows_of archives * sources
archives_cells many sources step last steps [] some are = omega arith
archives_cells many sources step last steps (archive ∷ archives) some are =
    let first : length (cells_by_slot step last archive) ≡ length archive.rows * sources = many (resolution step archive.def) last sources archive.rows (some_seconds step archive.def.steps some are.0.some_steps) (one_each sources archive.rows are.0.each_row) in
    let rows : length archive.rows * sources ≡ archive.def.rows * sources = ap (λ n. n * sources) are.0.rows_are in
    let all : length (flat_map (cells_by_slot step last) (archive ∷ archives)) ≡ length (cells_by_slot step last archive) + length (flat_map (cells_by_slot step last) archives) = ap length (flat_map-cons (cells_by_slot step last) archive archives) ∙ length-append (cells_by_slot step last archive) (flat_map (cells_by_slot step last) archives) in
    let sum_is : sum_by rows_of (archive ∷ archives) * sources ≡ archive.def.rows * sources + sum_by rows_of archives * sources = ap (λ n. n * sources) (sum_by-cons rows_of archive archives) ∙ add-mul archive.def.rows (sum_by rows_of archives) sources in
    all ∙ (λ i. (first ∙ rows) i + (archives_cells many sources step last steps archives some are.1) i) ∙ sym sum_is

pub all_cells_are : ManyCells → (d : Content) → IsValid d → length (all_cells d) ≡ sum_by rows_of d.archives * length d.sources
all_cells_are many d valid = archives_cells many (length d.sources) d.step d.last (d.last / d.step) d.archives valid.some_step valid.archives_are
