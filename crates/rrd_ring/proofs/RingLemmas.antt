-- Rows of cells in one vector, and rings of them.
use Rattle.std.proofs.lemmas.Grind.{common_steps}
use Rattle.rrd_ring.proofs.Names.{Vec, Global, ◌≡◌, ◌⊎◌, set, sym, ◌∙◌, ap, ℕ, zero, suc, ◌+◌, ◌-◌, ◌*◌, ◌%◌, ◌<◌, ◌≤◌, List, [], ◌∷◌, ◌++◌, length, min, get_or, take, drop, replicate, ⊎_elim, arith, length-append, length-drop, take-append-add, add-mul, mod-eq_of_lt, mod-eq-sub-mod, cases_lt, row_fits, mul-le, mod_below, append_assoc, append-nil, length-take-le, length-replicate, take-append-drop, take-append-le, drop-append-le, drop-drop, take_at, drop_at, take_all, drop_all, get_or_append_left, get_or-append_right, get_or-replicate, length-set, with_items_is, replicate-append-replicate, take-replicate, drop-replicate, length-map-range_with_len, get_or-map-range_with_len, fill_by_all, with_items_from, Cell, Unknown, nth_row, row_cells, width, HasWidth, unknown_rows, AreDropped, row_of, rows_of, ring_rows, cells_in, from_index, AreParts, IsRing, AreRows}
use Rattle.rrd_ring.proofs.RowLemmas.{AreDropped-from_width}

-- ---- places

-- an index past the last row goes on from the first
pub mod_wrapped : (index rows : ℕ) → rows ≤ index → index < 2 * rows → index % rows ≡ index - rows
mod_wrapped index rows h k = let below : index - rows < rows = omega arith in mod-eq-sub-mod h ∙ mod-eq_of_lt below

-- so many rows have no more cells than more rows
pub cells_le : (a b w : ℕ) → a ≤ b → a * w ≤ b * w
cells_le a b w h = mul-le a w b w h (omega arith)

-- ---- the cells of a ring from an index on

from_index_at : (a b : List Cell) (n : ℕ) → length a ≡ n → from_index n (a ++ b) ≡ b ++ a
from_index_at a b n e = rw (drop_at a b n e, take_at a b n e)

three_parts : (xs : List Cell) (m n : ℕ) → xs ≡ take m xs ++ (take n (drop m xs) ++ drop n (drop m xs))
three_parts xs m n = sym (ap (λ (ys : List Cell). take m xs ++ ys) (take-append-drop n (drop m xs)) ∙ take-append-drop m xs)

further : (a b c : List Cell) (q s r : ℕ) → length a ≡ q → length b ≡ s → q + s ≡ r → from_index s (from_index q (a ++ (b ++ c))) ≡ from_index r (a ++ (b ++ c))
further a b c q s r la lb e = grind (arith, length-append, from_index_at, append_assoc)

around : (a b c : List Cell) (q s r : ℕ) → length a ≡ r → length (a ++ b) ≡ q → length c + r ≡ s → from_index s (from_index q (a ++ (b ++ c))) ≡ from_index r (a ++ (b ++ c))
around a b c q s r la lab e = grind (arith, length-append, append_assoc, from_index_at)

from_index-further : (xs : List Cell) (q s r : ℕ) → q + s ≡ r → r ≤ length xs → from_index s (from_index q xs) ≡ from_index r xs
from_index-further xs q s r e h = grind (arith, common_steps, length-take-le q xs, length-take-le s (drop q xs), length-drop q xs, three_parts xs q s, further)

from_index-around : (xs : List Cell) (q s r : ℕ) → q + s ≡ r + length xs → r ≤ q → q ≤ length xs → from_index s (from_index q xs) ≡ from_index r xs
from_index-around xs q s r e h k = grind (arith, common_steps, length-take-le r xs, length-take-le (q - r) (drop r xs), length-drop r xs, length-append, length-drop (q - r) (drop r xs), three_parts xs r (q - r), around)

-- so many rows after the oldest one
pub from_index-rows : (rows w index more : ℕ) (xs : List Cell) → length xs ≡ rows * w → index < rows → more ≤ rows → from_index (more * w) (from_index (index * w) xs) ≡ from_index (((index + more) % rows) * w) xs
from_index-rows rows w index more xs e h k =
    let sum = add-mul index more w in
    ⊎_elim (λ (below : index + more < rows). grind (arith, mod-eq_of_lt, from_index-further, cells_le))
    (λ (past : rows ≤ index + more). grind (arith, add-mul, mod_wrapped, from_index-around, cells_le))
    (cases_lt (index + more) rows)

pub length-from_index : (start : ℕ) (xs : List Cell) → start ≤ length xs → length (from_index start xs) ≡ length xs
length-from_index start xs h = omega (arith, length-append (drop start xs) (take start xs), length-drop start xs, length-take-le start xs h)

-- ---- the rows of a vector

pub length-rows_of : (rows w : ℕ) (xs : List Cell) → length (rows_of rows w xs) ≡ rows
length-rows_of rows w xs = length-map-range_with_len (λ i. row_of w xs i) 0 rows

pub nth_row-rows_of : (rows w : ℕ) (xs : List Cell) (i : ℕ) → i < rows → nth_row (rows_of rows w xs) i ≡ row_of w xs i
nth_row-rows_of rows w xs i h = get_or-map-range_with_len (λ i. row_of w xs i) 0 rows i i [] h (omega arith)

pub length-ring_rows : (rows w index : ℕ) (xs : List Cell) → length (ring_rows rows w index xs) ≡ rows
length-ring_rows rows w index xs = length-map-range_with_len (λ i. row_of w xs ((index + i) % rows)) 0 rows

pub nth_row-ring_rows : (rows w index : ℕ) (xs : List Cell) (i : ℕ) → i < rows → nth_row (ring_rows rows w index xs) i ≡ row_of w xs ((index + i) % rows)
nth_row-ring_rows rows w index xs i h = grind (arith, common_steps, get_or-map-range_with_len)

pub length-row_of : (w : ℕ) (xs : List Cell) (i : ℕ) → i * w + w ≤ length xs → length (row_of w xs i) ≡ w
length-row_of w xs i h = length-take-le w (drop (i * w) xs) (omega (arith, length-drop (i * w) xs))

HasWidth_by : (w : ℕ) (xs : List (List Cell)) → ((i : ℕ) → i < length xs → length (get_or xs i []) ≡ w) → HasWidth w xs
HasWidth_by w [] h = tt
HasWidth_by w (x ∷ xs) h = (h 0 (omega arith), HasWidth_by w xs (λ i k. h (suc i) (omega arith)))

pub HasWidth-rows_of : (rows w : ℕ) (xs : List Cell) → length xs ≡ rows * w → HasWidth w (rows_of rows w xs)
HasWidth-rows_of rows w xs e =
    HasWidth_by w (rows_of rows w xs)
    (λ i h. let k : i < rows = omega (arith, length-rows_of rows w xs) in
    ap length (nth_row-rows_of rows w xs i k) ∙ length-row_of w xs i (omega (arith, row_fits i w rows w k (omega arith))))

from_later : (m k w : ℕ) (xs ys : List Cell) → length xs ≡ m * w → m ≤ k → drop (k * w) (xs ++ ys) ≡ drop ((k - m) * w) ys
from_later m k w xs ys e h = grind (arith, add-mul m (k - m) w, drop-drop ((k - m) * w) (m * w) (xs ++ ys), drop_at xs ys (m * w) e)

-- rows after others
pub rows_of-append : (m n w : ℕ) (xs ys : List Cell) → length xs ≡ m * w → rows_of (m + n) w (xs ++ ys) ≡ rows_of m w xs ++ rows_of n w ys
rows_of-append m n w xs ys e =
    let front = rows_of m w xs in
    let back = rows_of n w ys in
    let lf = length-rows_of m w xs in
    let lb = length-rows_of n w ys in
    sym (fill_by_all (λ i. row_of w (xs ++ ys) i) (front ++ back) (m + n) [] (omega (arith, length-append front back, lf, lb))
    (λ k h. ⊎_elim (λ (below : k < m).
    let fits : k * w + w ≤ m * w = row_fits k w m w below (omega arith) in
    get_or_append_left front back [] k (omega (arith, lf))
    ∙ nth_row-rows_of m w xs k below
    ∙ sym (ap (take w) (drop-append-le (k * w) xs ys (omega arith)) ∙ take-append-le w (drop (k * w) xs) ys (omega (arith, length-drop (k * w) xs))))
    (λ (past : m ≤ k).
    get_or-append_right front back m k [] lf past
    ∙ nth_row-rows_of n w ys (k - m) (omega arith)
    ∙ ap (take w) (sym (from_later m k w xs ys e past)))
    (cases_lt k m)))

split_rows : (k n w : ℕ) (xs : List Cell) → k ≤ n → length xs ≡ n * w → rows_of n w xs ≡ rows_of k w (take (k * w) xs) ++ rows_of (n - k) w (drop (k * w) xs)
split_rows k n w xs h e = grind (arith, common_steps, take-append-drop (k * w) xs, rows_of-append k (n - k) w (take (k * w) xs) (drop (k * w) xs), length-take-le (k * w) xs, cells_le k n w h)

pub rows_of-take : (k n w : ℕ) (xs : List Cell) → k ≤ n → length xs ≡ n * w → rows_of k w (take (k * w) xs) ≡ take k (rows_of n w xs)
rows_of-take k n w xs h e = grind (arith, common_steps, split_rows k n w xs h e, take_at, length-rows_of k w (take (k * w) xs))

pub rows_of-drop : (k n w : ℕ) (xs : List Cell) → k ≤ n → length xs ≡ n * w → rows_of (n - k) w (drop (k * w) xs) ≡ drop k (rows_of n w xs)
rows_of-drop k n w xs h e = grind (arith, common_steps, split_rows k n w xs h e, drop_at, length-rows_of k w (take (k * w) xs))

pub rows_of_one : (w : ℕ) (row : List Cell) → length row ≡ w → rows_of 1 w row ≡ row ∷ []
rows_of_one w row e = grind (arith, take_all)

pub rows_of_unknown : (rows w : ℕ) → rows_of rows w (replicate (rows * w) Unknown) ≡ unknown_rows rows w
rows_of_unknown rows w =
    let all = replicate (rows * w) Unknown in
    sym (fill_by_all (λ i. row_of w all i) (unknown_rows rows w) rows [] (length-replicate rows (replicate w Unknown))
    (λ k h. get_or-replicate rows k (replicate w Unknown) [] h
    ∙ sym (ap (take w) (drop-replicate (k * w) (rows * w) Unknown) ∙ take-replicate w (rows * w - k * w) Unknown (omega (arith, row_fits k w rows w h (omega arith))))))

-- ---- the rows of a ring

row_first : (w : ℕ) (xs : List Cell) (i : ℕ) → i * w + w ≤ length xs → take w (from_index (i * w) xs) ≡ row_of w xs i
row_first w xs i h = take-append-le w (drop (i * w) xs) (take (i * w) xs) (omega (arith, length-drop (i * w) xs))

-- they are the rows of its cells from the oldest row on
pub ring_rows-from_index : (rows w index : ℕ) (xs : List Cell) → index < rows → length xs ≡ rows * w → ring_rows rows w index xs ≡ rows_of rows w (from_index (index * w) xs)
ring_rows-from_index rows w index xs h e =
    let turned = from_index (index * w) xs in
    let lt : length turned ≡ rows * w = length-from_index (index * w) xs (omega (arith, cells_le index rows w (omega arith))) ∙ e in
    fill_by_all (λ i. row_of w turned i) (ring_rows rows w index xs) rows [] (length-ring_rows rows w index xs)
    (λ k below.
    let at = (index + k) % rows in
    let at_below : at < rows = mod_below (index + k) rows (omega arith) in
    nth_row-ring_rows rows w index xs k below
    ∙ sym (row_first w xs at (omega (arith, row_fits at w rows w at_below (omega arith))))
    ∙ ap (take w) (sym (from_index-rows rows w index k xs e h (omega arith)))
    ∙ row_first w turned k (omega (arith, row_fits k w rows w below (omega arith))))

-- what is known of a ring's cells
pub length-turned : (rows w index : ℕ) (xs : List Cell) → IsRing rows w index xs → length (from_index (index * w) xs) ≡ rows * w
length-turned rows w index xs is = grind (arith, length-from_index, cells_le)

pub HasWidth-ring_rows : (rows w index : ℕ) (xs : List Cell) → IsRing rows w index xs → HasWidth w (ring_rows rows w index xs)
HasWidth-ring_rows rows w index xs is = grind (arith, ring_rows-from_index, HasWidth-rows_of, length-turned)

pub ring_len : (rows w index : ℕ) (xs : List Cell) (all : List (List Cell)) → ring_rows rows w index xs ≡ all → length all ≡ rows
ring_len rows w index xs all e = ap length (sym e) ∙ length-ring_rows rows w index xs

pub ring_width : (rows w index : ℕ) (xs : List Cell) (all : List (List Cell)) → IsRing rows w index xs → ring_rows rows w index xs ≡ all → width all ≡ w
ring_width rows w index xs all is e = grind (arith, length-ring_rows, HasWidth-ring_rows)

pub ring_fits : (rows w index k : ℕ) (xs : List Cell) → IsRing rows w index xs → k < rows → k * w + w ≤ length xs
ring_fits rows w index k xs is h = omega (arith, is.whole, row_fits k w rows w h (omega arith))

pub AreDropped-rows_of : (rows w : ℕ) (xs : List Cell) → AreRows rows w xs → AreDropped (rows_of rows w xs)
AreDropped-rows_of rows w xs are = grind (arith, length-rows_of, AreDropped-from_width, HasWidth-rows_of)

-- ---- rows that lie together

-- the cells of rows are those of the vector
pub row_cells-rows_of : (n w : ℕ) (xs : List Cell) → length xs ≡ n * w → row_cells (rows_of n w xs) ≡ xs
row_cells-rows_of zero w xs e = let none : length xs ≤ 0 = omega (arith, e) in sym (drop_all 0 xs none)
row_cells-rows_of (suc n) w xs e = grind (arith, common_steps, add-mul n 1 w, length-take-le (1 * w) xs, split_rows 1 (suc n) w xs, rows_of_one w, row_cells-rows_of n w, length-drop (1 * w) xs, take-append-drop (1 * w) xs)

pub rows_run : (rows w i n : ℕ) (xs : List Cell) → length xs ≡ rows * w → i + n ≤ rows → row_cells (take n (drop i (rows_of rows w xs))) ≡ take (n * w) (drop (i * w) xs)
rows_run rows w i n xs e h =
    let back = drop (i * w) xs in
    let sum : rows ≡ i + (rows - i) = omega arith in
    let count : rows * w ≡ i * w + (rows - i) * w = ap (λ (m : ℕ). m * w) sum ∙ add-mul i (rows - i) w in
    let long : length back ≡ (rows - i) * w = omega (arith, length-drop (i * w) xs, e, count) in
    ap (λ (rs : List (List Cell)). row_cells (take n rs)) (sym (rows_of-drop i rows w xs (omega arith) e))
    ∙ ap row_cells (sym (rows_of-take n (rows - i) w back (omega arith) long))
    ∙ row_cells-rows_of n w (take (n * w) back) (length-take-le (n * w) back (omega (arith, long, cells_le n (rows - i) w (omega arith))))

-- where they don't go on from the vector's first row
pub ring_run : (rows w index i n : ℕ) (xs : List Cell) → IsRing rows w index xs → i + n ≤ rows → (index + i) % rows + n ≤ rows
    → row_cells (take n (drop i (ring_rows rows w index xs))) ≡ take (n * w) (drop (((index + i) % rows) * w) xs)
ring_run rows w index i n xs is h k =
    let at = (index + i) % rows in
    let turned = from_index (index * w) xs in
    let lt = length-turned rows w index xs is in
    let here = add-mul i n w in
    let there = add-mul at n w in
    ap (λ (rs : List (List Cell)). row_cells (take n (drop i rs))) (ring_rows-from_index rows w index xs is.index_within is.whole)
    ∙ rows_run rows w i n turned lt h
    ∙ sym (take-append-le (n * w) (drop (i * w) turned) (take (i * w) turned) (omega (arith, length-drop (i * w) turned, lt, here, cells_le (i + n) rows w h)))
    ∙ ap (take (n * w)) (from_index-rows rows w index i xs is.whole is.index_within (omega arith))
    ∙ take-append-le (n * w) (drop (at * w) xs) (take (at * w) xs) (omega (arith, length-drop (at * w) xs, is.whole, there, cells_le (at + n) rows w k))

-- ---- a row is pushed

-- the cells with other ones in the place of row k
abbrev pub with_cells : ℕ → ℕ → List Cell → List Cell → List Cell
with_cells w k xs row = take (k * w) xs ++ (row ++ drop w (drop (k * w) xs))

pub length-with_cells : (w k : ℕ) (xs row : List Cell) → k * w + w ≤ length xs → length row ≡ w → length (with_cells w k xs row) ≡ length xs
length-with_cells w k xs row fits e = grind (arith, common_steps, length-append)

pub ring_push : (rows w index : ℕ) (xs row : List Cell) → IsRing rows w index xs → length row ≡ w
    → ring_rows rows w ((index + 1) % rows) (with_cells w index xs row) ≡ drop 1 (ring_rows rows w index xs ++ row ∷ [])
ring_push rows w index xs row is e =
    let some : 0 < rows = is.some_rows in
    let within : index < rows = is.index_within in
    let fits : index * w + w ≤ length xs = ring_fits rows w index index xs is within in
    let front = take (index * w) xs in
    let rest = drop w (drop (index * w) xs) in
    let ys = front ++ (row ++ rest) in
    let turned = from_index (index * w) xs in
    let next = (index + 1) % rows in
    let long : length ys ≡ rows * w = length-with_cells w index xs row fits e ∙ is.whole in
    let lf : length front ≡ index * w = length-take-le (index * w) xs (omega arith) in
    let one : 1 * w ≡ w = omega arith in
    let all_rows : rows ≡ rows - 1 + 1 = omega arith in
    let others : rest ++ front ≡ drop (1 * w) turned = sym (ap (λ (n : ℕ). drop n turned) one ∙ drop-append-le w (drop (index * w) xs) front (omega (arith, length-drop (index * w) xs))) in
    let same : from_index (next * w) ys ≡ drop (1 * w) turned ++ row = grind (arith, from_index-rows, from_index_at, append_assoc) in
    let lt = length-turned rows w index xs is in
    let count : rows * w ≡ (rows - 1) * w + 1 * w = ap (λ (n : ℕ). n * w) all_rows ∙ add-mul (rows - 1) 1 w in
    ring_rows-from_index rows w next ys (mod_below (index + 1) rows some) long
    ∙ ap (rows_of rows w) same
    ∙ ap (λ (n : ℕ). rows_of n w (drop (1 * w) turned ++ row)) all_rows
    ∙ rows_of-append (rows - 1) 1 w (drop (1 * w) turned) row (omega (arith, length-drop (1 * w) turned))
    ∙ ap (λ (zs : List (List Cell)). zs ++ rows_of 1 w row) (rows_of-drop 1 rows w turned (omega arith) lt ∙ ap (drop 1) (sym (ring_rows-from_index rows w index xs within is.whole)))
    ∙ ap (λ (zs : List (List Cell)). drop 1 (ring_rows rows w index xs) ++ zs) (rows_of_one w row e)
    ∙ sym (drop-append-le 1 (ring_rows rows w index xs) (row ∷ []) (omega (arith, length-ring_rows rows w index xs)))

-- ---- rows are put back

-- rows of one width have as many cells as their numbers say
same_width : (n v w : ℕ) (ys : List Cell) → 0 < n → length ys ≡ n * v → HasWidth w (rows_of n v ys) → v ≡ w
same_width n v w ys some e h = grind (arith, length-rows_of, HasWidth-rows_of)

pub same_cells : (n v w : ℕ) (ys : List Cell) → length ys ≡ n * v → HasWidth w (rows_of n v ys) → length ys ≡ n * w
same_cells n v w ys e h = grind (arith, same_width)

pub same_rows : (n v w : ℕ) (ys : List Cell) → length ys ≡ n * v → HasWidth w (rows_of n v ys) → rows_of n v ys ≡ rows_of n w ys
same_rows n v w ys e h = grind (arith, same_width)

pub ring_take : (n rows w index : ℕ) (xs : List Cell) → n ≤ rows → IsRing rows w index xs → rows_of n w (take (n * w) (from_index (index * w) xs)) ≡ take n (ring_rows rows w index xs)
ring_take n rows w index xs h is = grind (arith, rows_of-take, length-turned, ring_rows-from_index)

pub ring_put_back : (n rows w index : ℕ) (xs new ds : List Cell) → n ≤ rows → IsRing rows w index xs → length new ≡ length xs → length ds ≡ n * w
    → from_index (((index + (rows - n)) % rows) * w) new ≡ ds ++ drop (length ds) (from_index (((index + (rows - n)) % rows) * w) xs)
    → ring_rows rows w ((index + (rows - n)) % rows) new ≡ rows_of n w ds ++ take (rows - n) (ring_rows rows w index xs)
ring_put_back n rows w index xs new ds h is l ld e =
    let kept = rows - n in
    let turned = from_index (index * w) xs in
    let lt = length-turned rows w index xs is in
    let all_rows : rows ≡ n + kept = omega arith in
    let count : rows * w ≡ n * w + kept * w = ap (λ (k : ℕ). k * w) all_rows ∙ add-mul n kept w in
    let ending : length (drop (kept * w) turned) ≡ length ds = omega (arith, length-drop (kept * w) turned) in
    grind (arith, from_index-rows, drop_at, ring_rows-from_index, mod_below, rows_of-append, ring_take)

-- ---- two pieces of a vector

-- the cells before the end, and those that are left from the front
copied_from : (xs : List Cell) (s f g : ℕ) → s ≤ length xs → f ≤ length xs - s → g ≤ s → (g ≡ 0) ⊎ (length xs - s ≤ f) → take f (drop s xs) ++ take g xs ≡ take (f + g) (from_index s xs)
copied_from xs s f g hs hf hg which =
    let lb = length-drop s xs in
    ⊎_elim (λ (none : g ≡ 0). grind (arith, common_steps, append-nil))
    (λ (full : length xs - s ≤ f). grind (arith, common_steps, take_all, take-append-add))
    which

pub written_from : (xs ds : List Cell) (s f g : ℕ) → s ≤ length xs → f + g ≡ length ds → f ≤ length xs - s → g ≤ s → (g ≡ 0) ⊎ (length xs - s ≤ f)
    → from_index s (drop f ds ++ drop g (take s xs ++ (take f ds ++ drop f (drop s xs)))) ≡ ds ++ drop (length ds) (from_index s xs)
written_from xs ds s f g hs sum hf hg which =
    let front = take s xs in
    let back = drop s xs in
    let lf : length front ≡ s = length-take-le s xs hs in
    let lb : length back ≡ length xs - s = length-drop s xs in
    let first = take f ds ++ drop f back in
    let second = drop f ds ++ drop g front in
    let ls : length second ≡ s = omega (arith, length-append (drop f ds) (drop g front), length-drop f ds, length-drop g front) in
    ap (λ (zs : List Cell). from_index s (drop f ds ++ zs)) (drop-append-le g front first (omega arith))
    ∙ ap (from_index s) (sym (append_assoc (drop f ds) (drop g front) first))
    ∙ from_index_at second first s ls
    ∙ ⊎_elim (λ (none : g ≡ 0). grind (arith, common_steps, take_all, drop_all, append_assoc))
    (λ (full : length xs - s ≤ f).
    ap (λ (zs : List Cell). (take f ds ++ zs) ++ second) (drop_all f back (omega arith))
    ∙ ap (λ (zs : List Cell). zs ++ second) (append-nil (take f ds))
    ∙ sym (append_assoc (take f ds) (drop f ds) (drop g front))
    ∙ ap (λ (zs : List Cell). zs ++ drop g front) (take-append-drop f ds)
    ∙ ap (λ (zs : List Cell). ds ++ zs) (sym (ap (λ (k : ℕ). drop k (back ++ front)) (sym sum) ∙ sym (drop-drop g f (back ++ front)) ∙ ap (drop g) (drop_at back front f (omega arith)))))
    which

-- ---- rows that are made

pub rows_len : (rows w : ℕ) (xs : List Cell) (all : List (List Cell)) → rows_of rows w xs ≡ all → length all ≡ rows
rows_len rows w xs all e = ap length (sym e) ∙ length-rows_of rows w xs

-- where the vector's first row is the oldest
pub ring_at_front : (rows w : ℕ) (xs : List Cell) → 0 < rows → length xs ≡ rows * w → ring_rows rows w 0 xs ≡ rows_of rows w xs
ring_at_front rows w xs some e = grind (arith, ring_rows-from_index, append-nil)

pub ring_unknown : (rows w index : ℕ) → index < rows → ring_rows rows w index (replicate (rows * w) Unknown) ≡ unknown_rows rows w
ring_unknown rows w index within = grind (arith, common_steps, cells_le index rows w, drop-replicate, take-replicate, replicate-append-replicate, ring_rows-from_index rows w index, length-replicate, rows_of_unknown rows w)

-- ---- some rows of a ring, in two parts of its vector

pub parts_all : {rows w index i count start front rest : ℕ} → AreParts rows w index i count start front rest → front + rest ≡ count * w
parts_all {rows} {w} {index} {i} {count} parts = grind arith

parts_from : {rows w index i count start front rest : ℕ} (xs : List Cell) → AreParts rows w index i count start front rest → IsRing rows w index xs → count ≤ rows
    → cells_in start front rest xs ≡ take (count * w) (from_index (((index + i) % rows) * w) xs)
parts_from {rows} {w} {index} {i} {count} {start} {front} {rest} xs parts is few =
    let at = (index + i) % rows in
    let sum : at + (rows - at) ≡ rows = omega arith in
    let left : length xs - start ≡ (rows - at) * w = omega (arith, is.whole, parts.starts, add-mul at (rows - at) w, ap (λ (n : ℕ). n * w) sum) in
    let fits : front ≤ length xs - start = omega (arith, left, parts.in_front, cells_le (min count (rows - at)) (rows - at) w (omega arith)) in
    let before : rest ≤ start = omega (arith, parts.starts, parts.others, cells_le (count - min count (rows - at)) at w (omega arith)) in
    let which : (rest ≡ 0) ⊎ (length xs - start ≤ front) = grind (arith, add-mul, cells_le, copied_from, parts_all) in
    grind (arith, copied_from, parts_all)

pub length-parts : {rows w index i count start front rest : ℕ} (xs : List Cell) → AreParts rows w index i count start front rest → IsRing rows w index xs → count ≤ rows → length (cells_in start front rest xs) ≡ count * w
length-parts {rows} {w} {index} {i} {count} xs parts is few =
    let at = (index + i) % rows in
    let within : at * w ≤ length xs = omega (arith, is.whole, cells_le at rows w (omega arith)) in
    ap length (parts_from xs parts is few) ∙ length-take-le (count * w) (from_index (at * w) xs) (omega (arith, length-from_index (at * w) xs within, is.whole, cells_le count rows w few))

pub rows_of-parts : {rows w index i count start front rest : ℕ} (xs : List Cell) → AreParts rows w index i count start front rest → IsRing rows w index xs → i + count ≤ rows
    → rows_of count w (cells_in start front rest xs) ≡ take count (drop i (ring_rows rows w index xs))
rows_of-parts {rows} {w} {index} {i} {count} xs parts is fits =
    let turned = from_index (index * w) xs in
    let lt = length-turned rows w index xs is in
    let back = drop (i * w) turned in
    let sum : i + (rows - i) ≡ rows = omega arith in
    let long : length back ≡ (rows - i) * w = omega (arith, length-drop (i * w) turned, lt, add-mul i (rows - i) w, ap (λ (n : ℕ). n * w) sum) in
    ap (rows_of count w) (parts_from xs parts is (omega arith)
    ∙ ap (take (count * w)) (sym (from_index-rows rows w index i xs is.whole is.index_within (omega arith)))
    ∙ take-append-le (count * w) back (take (i * w) turned) (omega (arith, long, cells_le count (rows - i) w (omega arith))))
    ∙ rows_of-take count (rows - i) w back (omega arith) long
    ∙ ap (take count) (rows_of-drop i rows w turned (omega arith) lt ∙ ap (drop i) (sym (ring_rows-from_index rows w index xs is.index_within is.whole)))

-- ---- a row is written over

row_before : (w j : ℕ) (a zs : List Cell) → j * w + w ≤ length a → row_of w (a ++ zs) j ≡ row_of w a j
row_before w j a zs h = grind (arith, common_steps, drop-append-le (j * w) a zs, take-append-le w (drop (j * w) a) zs, length-drop (j * w) a)

row_after : (w m j : ℕ) (a zs : List Cell) → length a ≡ m * w → m ≤ j → row_of w (a ++ zs) j ≡ row_of w zs (j - m)
row_after w m j a zs e h = ap (take w) (from_later m j w a zs e h)

row_of-written : (w k : ℕ) (xs row : List Cell) → k * w + w ≤ length xs → length row ≡ w → row_of w (with_cells w k xs row) k ≡ row
row_of-written w k xs row fits e = grind (arith, common_steps, drop_at)

row_of-others : (w k j : ℕ) (xs row : List Cell) → k * w + w ≤ length xs → length row ≡ w → (j ≡ k → ⊥) → row_of w (with_cells w k xs row) j ≡ row_of w xs j
row_of-others w k j xs row fits e other =
    let front = take (k * w) xs in
    let mid = take w (drop (k * w) xs) in
    let rest = drop w (drop (k * w) xs) in
    let lf : length front ≡ k * w = length-take-le (k * w) xs (omega arith) in
    let lm : length mid ≡ w = length-take-le w (drop (k * w) xs) (omega (arith, length-drop (k * w) xs)) in
    let before : length (front ++ row) ≡ (k + 1) * w = omega (arith, length-append front row) in
    let was : length (front ++ mid) ≡ (k + 1) * w = omega (arith, length-append front mid) in
    let whole : front ++ (mid ++ rest) ≡ xs = sym (three_parts xs (k * w) w) in
    ⊎_elim (λ (less : j < k). grind (arith, row_fits, row_before))
    (λ (least : k ≤ j). grind (arith, append_assoc, row_after))
    (cases_lt j k)

same_or_not : (j i : ℕ) → (j ≡ i) ⊎ (j ≡ i → ⊥)
same_or_not j i = grind arith

-- two rows at one index are one
wrapped_same : (rows index i j : ℕ) → index < rows → i < rows → j < rows → (index + j) % rows ≡ (index + i) % rows → j ≡ i
wrapped_same rows index i j h hi hj e = grind arith

pub ring_written : (rows w index i : ℕ) (xs row : List Cell) → IsRing rows w index xs → i < rows → length row ≡ w → ring_rows rows w index (with_cells w ((index + i) % rows) xs row) ≡ set (ring_rows rows w index xs) i row
ring_written rows w index i xs row is h e =
    let some : 0 < rows = is.some_rows in
    let at = (index + i) % rows in
    let fits = ring_fits rows w index at xs is (mod_below (index + i) rows some) in
    let was = ring_rows rows w index xs in
    let count = length-ring_rows rows w index xs in
    sym (fill_by_all (λ j. row_of w (with_cells w at xs row) ((index + j) % rows)) (set was i row) rows [] (length-set was i row ∙ count)
    (λ j k. ⊎_elim (λ (same : j ≡ i). grind (arith, common_steps, row_of-written))
    (λ (other : j ≡ i → ⊥). grind (arith, common_steps, nth_row-ring_rows, row_of-others, wrapped_same))
    (same_or_not j i)))

-- what a vector ends as, once a row that was lent has come back with as many cells
pub vec_written : (v : Vec Cell Global) (w k start : ℕ) (row : List Cell) → start ≡ k * w → k * w + w ≤ length v.items → length row ≡ w → (with_items_from v start row).items ≡ with_cells w k v.items row
vec_written v w k start row at fits e = grind (arith, with_items_is, length-with_cells)
