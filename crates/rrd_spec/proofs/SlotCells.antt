-- The cells of an archive, slot by slot.
use Rattle.std.specs.Prelude.{◌≡◌, ◌+◌, ◌-◌, ◌*◌, ◌<◌, ◌≤◌, ◌≢◌, ◌++◌, ℕ, zero, suc, List, [], ◌∷◌, length, take, drop}
use Rattle.rrd_spec.proofs.Names.{◌∙◌, sym, ap, refl, arith, get_or, set, AllByRecursion, flat_map, range_with_len, append_assoc, drop_at, get_or_append_left, get_or-append_right, length-append, length-set, set-append_left, set-append_right, take_at, Cell, by_slot, row_in, place_in, AsManyCells, CellStandsInSlot, HasOneEach, PutsBlock, PutsCell, with_row_in}
use Rattle.rrd_spec.proofs.Slotted.{keeps_row, puts_row, slot_has_place, stands_in_place}
use native.Mathlib.Nat as nat

-- ---- blocks of cells: those of n numbers from a on

abbrev blocks : (ℕ → List Cell) → ℕ → ℕ → List Cell
blocks f a n = flat_map f (range_with_len a n)

-- each has w cells
abbrev AreWide : (ℕ → List Cell) → ℕ → ℕ → Type 0
AreWide f w n = (k : ℕ) → k < n → length (f k) ≡ w

wide_blocks : (f : ℕ → List Cell) (w a n all : ℕ) → a + n ≤ all → AreWide f w all → length (blocks f a n) ≡ n * w
wide_blocks f w a zero all within wide = omega arith
wide_blocks f w a (suc n) all within wide = grind (arith, wide_blocks f w (a + 1) n all (omega (arith, within)) wide, length-append)

same_blocks : (f g : ℕ → List Cell) (a n : ℕ) → ((k : ℕ) → a ≤ k → k < a + n → g k ≡ f k) → blocks g a n ≡ blocks f a n
same_blocks f g a zero same = refl
same_blocks f g a (suc n) same = cc (same a (omega arith) (omega arith), same_blocks f g (a + 1) n (λ k low high. same k (omega (arith, low)) (omega (arith, high))))

-- those before one, that one, those after it
cut : (f : ℕ → List Cell) (a s m n : ℕ) → n ≡ s + suc m → blocks f a n ≡ blocks f a s ++ (f (a + s) ++ blocks f (a + s + 1) m)
cut f a zero m n is = cc (ap (blocks f a) {x = n} {y = suc m} (omega (arith, is)), ap (λ k. f k ++ blocks f (k + 1) m) {x = a} {y = a + 0} (omega arith))
cut f a (suc s) m zero is = absurd (omega (arith, is))
cut f a (suc s) m (suc n) is = grind (arith, cut f (a + 1) s m n (omega (arith, is)), append_assoc)

-- one of n blocks of one width: what is before it and what is after it
record IsCut (f : ℕ → List Cell) (w n s : ℕ) (front here back : List Cell) : Type 0 where
  pub whole : blocks f 0 n ≡ front ++ (here ++ back)
  pub front_is : take (s * w) (blocks f 0 n) ≡ front
  pub back_is : drop ((s + 1) * w) (blocks f 0 n) ≡ back
  pub front_wide : length front ≡ s * w
  pub here_wide : length here ≡ w

is_cut : (f : ℕ → List Cell) (w n s : ℕ) → s < n → AreWide f w n → IsCut f w n s (blocks f 0 s) (f s) (blocks f (s + 1) (n - s - 1))
is_cut f w n s inside wide =
    let front = blocks f 0 s in
    let back = blocks f (s + 1) (n - s - 1) in
    let whole : blocks f 0 n ≡ front ++ (f s ++ back) =
    cut f 0 s (n - s - 1) n (omega (arith, inside)) ∙ ap (λ k. front ++ (f k ++ blocks f (k + 1) (n - s - 1))) {x = 0 + s} {y = s} (omega arith) in
    let front_wide : length front ≡ s * w = wide_blocks f w 0 s n (omega (arith, inside)) wide in
    let here_wide : length (f s) ≡ w = wide s inside in
    let product : (s + 1) * w ≡ s * w + w = ap (λ k. k * w) {x = s + 1} {y = suc s} (omega arith) ∙ nat.suc-mul s w in
    let reach : length (front ++ f s) ≡ (s + 1) * w = omega (arith, length-append front (f s), front_wide, here_wide, product) in
    assumption (whole, ap (take (s * w)) whole ∙ take_at front (f s ++ back) (s * w) front_wide, ap (drop ((s + 1) * w)) (whole ∙ sym (append_assoc front (f s) back)) ∙ drop_at (front ++ f s) back ((s + 1) * w) reach, front_wide, here_wide)

-- another block in place of one
another : (f g : ℕ → List Cell) (w n s : ℕ) → s < n → AreWide f w n → ((k : ℕ) → k < n → k ≢ s → g k ≡ f k)
    → blocks g 0 n ≡ take (s * w) (blocks f 0 n) ++ (g s ++ drop ((s + 1) * w) (blocks f 0 n))
another f g w n s inside wide same =
    let c = is_cut f w n s inside wide in
    let m = n - s - 1 in
    let mine : blocks g 0 n ≡ blocks g 0 s ++ (g s ++ blocks g (s + 1) m) =
    cut g 0 s m n (omega (arith, inside)) ∙ ap (λ k. blocks g 0 s ++ (g k ++ blocks g (k + 1) m)) {x = 0 + s} {y = s} (omega arith) in
    grind (arith, same_blocks)

-- ---- an archive's

-- each row of a place has its cells
pub wide_rows : (sources : ℕ) (rows : List (List Cell)) (place : ℕ) → AllByRecursion (HasOneEach sources) rows → place < length rows → length (get_or rows place []) ≡ sources
wide_rows sources [] place all inside = absurd (omega arith)
wide_rows sources (row ∷ rows) zero all inside = all.0
wide_rows sources (row ∷ rows) (suc place) all inside = wide_rows sources rows place all.1 (omega arith)

wide_slots : (size last sources : ℕ) (rows : List (List Cell)) → 0 < size → AllByRecursion (HasOneEach sources) rows → AreWide (row_in size last rows) sources (length rows)
wide_slots size last sources rows some all slot inside = cc (stands_in_place size last rows slot some inside, wide_rows sources rows (place_in size last (length rows) slot) all (slot_has_place size last (length rows) slot some inside).there)

pub as_many_cells : (size last sources : ℕ) (rows : List (List Cell)) → AsManyCells size last sources rows
as_many_cells size last sources rows some all = grind (arith, wide_blocks, wide_slots)

pub cell_stands_in_slot : (size last sources : ℕ) (rows : List (List Cell)) (slot source : ℕ) (or : Cell) → CellStandsInSlot size last sources rows slot source or
cell_stands_in_slot size last sources rows slot source or some all inside within =
    let f = row_in size last rows in
    let n = length rows in
    let c = is_cut f sources n slot inside (wide_slots size last sources rows some all) in
    let back = blocks f (slot + 1) (n - slot - 1) in
    let at = slot * sources + source in
    ap (λ cells. get_or cells at or) c.whole
    ∙ (get_or-append_right (blocks f 0 slot) (f slot ++ back) (slot * sources) at or c.front_wide (omega arith)
    ∙ (ap (λ k. get_or (f slot ++ back) k or) {x = at - slot * sources} {y = source} (omega arith)
    ∙ (get_or_append_left (f slot) back or source (omega (arith, within, c.here_wide))
    ∙ ap (λ row. get_or row source or) (stands_in_place size last rows slot some inside))))

pub puts_block : (size last sources : ℕ) (rows : List (List Cell)) (slot : ℕ) (row : List Cell) → PutsBlock size last sources rows slot row
puts_block size last sources rows slot row some all inside wide =
    let n = length rows in
    let f = row_in size last rows in
    let g = row_in size last (with_row_in size last rows slot row) in
    let cells = by_slot size last rows in
    ap (blocks g 0) (length-set rows (place_in size last n slot) row)
    ∙ (another f g sources n slot inside (wide_slots size last sources rows some all) (λ k below apart. keeps_row size last rows slot row k some inside below apart)
    ∙ ap (λ r. take (slot * sources) cells ++ (r ++ drop ((slot + 1) * sources) cells)) (puts_row size last rows slot row some inside))

pub puts_cell : (size last sources : ℕ) (rows : List (List Cell)) (slot source : ℕ) (cell : Cell) → PutsCell size last sources rows slot source cell
puts_cell size last sources rows slot source cell some all inside within =
    let f = row_in size last rows in
    let n = length rows in
    let old = get_or rows (place_in size last n slot) [] in
    let row : f slot ≡ old = stands_in_place size last rows slot some inside in
    let c = is_cut f sources n slot inside (wide_slots size last sources rows some all) in
    let front = blocks f 0 slot in
    let back = blocks f (slot + 1) (n - slot - 1) in
    let at = slot * sources + source in
    let old_wide : length old ≡ sources = ap length (sym row) ∙ c.here_wide in
    let wide : length (set old source cell) ≡ sources = length-set old source cell ∙ old_wide in
    let then = puts_block size last sources rows slot (set old source cell) some all inside wide in
    let one : set (blocks f 0 n) at cell ≡ front ++ (set (f slot) source cell ++ back) =
    ap (λ cells. set cells at cell) c.whole
    ∙ (set-append_right front (f slot ++ back) (slot * sources) at cell c.front_wide (omega arith)
    ∙ (ap (λ k. front ++ set (f slot ++ back) k cell) {x = at - slot * sources} {y = source} (omega arith)
    ∙ ap (λ cells. front ++ cells) (set-append_left (f slot) back source cell (omega (arith, within, c.here_wide))))) in
    then ∙ ((λ i. c.front_is i ++ (set (sym row i) source cell ++ c.back_is i)) ∙ sym one)
