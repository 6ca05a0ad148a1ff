-- Rows that come as one list of cells are written into a ring.
use Rattle.std.proofs.lemmas.Grind.{common_steps}
use Rattle.rrd_ring.proofs.Names.{Vec, Global, ◌≡◌, ⊎_elim, refl, sym, ◌∙◌, ap, subst, ℕ, zero, suc, ◌+◌, ◌-◌, ◌*◌, ◌/◌, ◌%◌, ◌<◌, ◌≤◌, List, ◌++◌, length, min, replicate, set, take, drop, slice_range, arith, length-append, length-drop, length-set, vec_capacity, add-mul, add-mul-mod_self_right, mod-add-div', mod-eq_of_lt, mod_self, take-add, cases_lt, mod_below, append_assoc, length-take-le, take-append-drop, drop-drop, take_all, drop_at, length-replicate, take-replicate, drop-replicate, Cell, Unknown, nth_row, width, with_row, with_rows, row_of, ring_rows, with_unwritten, AreParts, AreWhole, IsRing, IsPartlyWritten, refill, length_refill, with_items_from}
use Rattle.rrd_ring.proofs.RingLemmas.{cells_le, length-row_of, length-ring_rows, length-with_cells, nth_row-ring_rows, parts_all, ring_fits, ring_written, vec_written, with_cells}
use Rattle.rrd_ring.proofs.WrittenLemmas.{IsFilled, same_ring, filled_further, filled_long, row_count, row_width, row_written, still_ring, whole_filled, written_over}

-- the cells with those of so many rows in place of the ones from row k on
abbrev pub with_block : ℕ → ℕ → ℕ → List Cell → List Cell → List Cell
with_block w k n xs cells = take (k * w) xs ++ (take (n * w) cells ++ drop (n * w) (drop (k * w) xs))

pub one_more : (n w : ℕ) → (n + 1) * w ≡ n * w + w
one_more n w = add-mul n 1 w ∙ (let one : n * w + 1 * w ≡ n * w + w = omega arith in one)

pub length-with_block : (w k n : ℕ) (xs cells : List Cell) → (k + n) * w ≤ length xs → n * w ≤ length cells → length (with_block w k n xs cells) ≡ length xs
length-with_block w k n xs cells fits has = grind (arith, common_steps, add-mul, length-append)

-- a row more
block_more : (w k n : ℕ) (xs cells : List Cell) → (k + n) * w + w ≤ length xs → (n + 1) * w ≤ length cells → with_cells w (k + n) (with_block w k n xs cells) (row_of w cells n) ≡ with_block w k (n + 1) xs cells
block_more w k n xs cells fits has =
    let sum = add-mul k n w in
    let more = one_more n w in
    let front = take (k * w) xs in
    let part = take (n * w) cells in
    let row = row_of w cells n in
    let back = drop (k * w) xs in
    let rest = drop (n * w) back in
    let long : length (front ++ part) ≡ (k + n) * w = omega (arith, sum, length-append front part, length-take-le (k * w) xs (omega (arith, sum)), length-take-le (n * w) cells (omega (arith, more, has))) in
    let same : with_block w k n xs cells ≡ (front ++ part) ++ rest = sym (append_assoc front part rest) in
    let next : part ++ row ≡ take ((n + 1) * w) cells = sym (ap (λ (m : ℕ). take m cells) more ∙ take-add (n * w) w cells) in
    let later : drop w rest ≡ drop ((n + 1) * w) back = drop-drop w (n * w) back ∙ ap (λ (m : ℕ). drop m back) (sym more) in
    grind (arith, common_steps, drop_at, append_assoc)

pub block_ring : (rows w index k n : ℕ) (xs cells : List Cell) → IsRing rows w index xs → k + n ≤ rows → n * w ≤ length cells → IsRing rows w index (with_block w k n xs cells)
block_ring rows w index k n xs cells is fits has = same_ring rows w index xs (with_block w k n xs cells) is (length-with_block w k n xs cells (omega (arith, is.whole, cells_le (k + n) rows w fits)) has)

mod_right : (a b m : ℕ) → (a + b % m) % m ≡ (a + b) % m
mod_right a b m = grind (arith, mod-add-div' b m, add-mul-mod_self_right (a + b % m) (b / m) m)

mod_left : (a b m : ℕ) → (a % m + b) % m ≡ (a + b) % m
mod_left a b m = grind (arith, mod-add-div' a m, add-mul-mod_self_right (a % m + b) (a / m) m)

-- so many places after a row's are in the vector so many rows after its own
indexes_on : (rows index i n : ℕ) → (index + i) % rows + n < rows → (index + (i + n) % rows) % rows ≡ (index + i) % rows + n
indexes_on rows index i n h = grind (arith, mod_right index (i + n) rows, mod_left (index + i) n rows, mod-eq_of_lt h)

-- rows from one on, as far as the vector goes on
pub block_written : (rows w index i n : ℕ) (xs cells : List Cell) → IsRing rows w index xs → (index + i) % rows + n ≤ rows → n * w ≤ length cells
    → ring_rows rows w index (with_block w ((index + i) % rows) n xs cells) ≡ with_rows n w (ring_rows rows w index xs) i cells
block_written rows w index i zero xs cells is fits has = grind (arith, common_steps, take-append-drop)
block_written rows w index i (suc n) xs cells is fits has =
    let k = (index + i) % rows in
    let all = ring_rows rows w index xs in
    let before = with_block w k n xs cells in
    let row = row_of w cells n in
    let next = (i + n) % rows in
    let one = one_more n w in
    let named : n + 1 ≡ suc n = omega arith in
    let enough : (n + 1) * w ≤ length cells = subst (λ (m : ℕ). m * w ≤ length cells) (sym named) has in
    let less : n * w ≤ length cells = omega (arith, one, enough) in
    let ring = block_ring rows w index k n xs cells is (omega (arith, fits)) less in
    let at : (index + next) % rows ≡ k + n = indexes_on rows index i n (omega (arith, fits)) in
    let top : (k + n) * w + w ≤ length xs = omega (arith, is.whole, one_more (k + n) w, cells_le (k + n + 1) rows w (omega (arith, fits))) in
    ap (λ (m : ℕ). ring_rows rows w index (with_block w k m xs cells)) (sym named)
    ∙ ap (ring_rows rows w index) (sym (block_more w k n xs cells top enough))
    ∙ ap (λ (m : ℕ). ring_rows rows w index (with_cells w m before row)) (sym at)
    ∙ ring_written rows w index next before row ring (mod_below (i + n) rows is.some_rows) (length-row_of w cells n (omega (arith, one, enough)))
    ∙ ap (λ (rs : List (List Cell)). set rs next row) (block_written rows w index i n xs cells is (omega (arith, fits)) less)
    ∙ ap (λ (m : ℕ). set (with_rows n w all i cells) ((i + n) % m) row) (sym (length-ring_rows rows w index xs))

length-with_rows : (n w : ℕ) (rows : List (List Cell)) (i : ℕ) (cells : List Cell) → length (with_rows n w rows i cells) ≡ length rows
length-with_rows zero w rows i cells = refl
length-with_rows (suc n) w rows i cells = length-set (with_rows n w rows i cells) ((i + n) % length rows) (take w (drop (n * w) cells)) ∙ length-with_rows n w rows i cells

-- some rows, and then others
pub rows_on : (m n w : ℕ) (rows : List (List Cell)) (i : ℕ) (cells : List Cell) → with_rows n w (with_rows m w rows i cells) ((i + m) % length rows) (drop (m * w) cells) ≡ with_rows (m + n) w rows i cells
rows_on m zero w rows i cells = ap (λ (k : ℕ). with_rows k w rows i cells) (let same : m ≡ m + 0 = omega arith in same)
rows_on m (suc n) w rows i cells =
    let named : suc (m + n) ≡ m + suc n = omega arith in
    grind (arith, length-with_rows, mod_left, drop-drop, add-mul, rows_on m n w rows i cells)

-- ---- a vector with such rows

pub record IsPutInto (rows w index k n : ℕ) (v new : Vec Cell Global) (cells : List Cell) : Type 0 where
  pub is : IsPartlyWritten rows w index new
  pub items : with_unwritten (rows * w) new.items ≡ with_block w k n (with_unwritten (rows * w) v.items) cells

-- what a vector is once cells were put from an index on
pub record Puts (start : ℕ) (part : List Cell) (v new : Vec Cell Global) : Type 0 where
  pub items : let filled = with_unwritten (start + length part) v.items in
      new.items ≡ take start filled ++ (part ++ drop (length part) (drop start filled))
  pub room : vec_capacity v ≤ vec_capacity new

block_put : (rows w index k n : ℕ) (v new : Vec Cell Global) (cells part : List Cell) (start : ℕ) → IsPartlyWritten rows w index v → k + n ≤ rows → n * w ≤ length cells → part ≡ take (n * w) cells → start ≡ k * w
    → Puts start part v new → IsPutInto rows w index k n v new cells
block_put rows w index k n v new cells part start is fits has part_is start_is put =
    let all = rows * w in
    let count : length part ≡ n * w = ap length part_is ∙ length-take-le (n * w) cells has in
    let end : start + length part ≡ (k + n) * w = omega (arith, count, start_is, add-mul k n w) in
    let filled = with_unwritten (start + length part) v.items in
    let turned : filled ≡ with_unwritten ((k + n) * w) v.items = ap (λ (m : ℕ). with_unwritten m v.items) end in
    let top : (k + n) * w ≤ all = cells_le (k + n) rows w fits in
    let long : start + length part ≤ length filled = filled_long (start + length part) v.items in
    let xs = with_unwritten all v.items in
    let same : with_unwritten all filled ≡ xs = filled_further all (start + length part) v.items (omega (arith, end, top)) in
    let cells_are : with_unwritten all new.items ≡ with_block w k n xs cells = grind (arith, written_over) in
    let whole : AreWhole w filled = subst (AreWhole w) (sym turned) (whole_filled w (k + n) v.items is.ends) in
    grind (arith, length-with_block)

-- rows up to the vector's end, and the others from its first row on
pub record ArePut (rows w index i count : ℕ) (all : List (List Cell)) (new : Vec Cell Global) (cells : List Cell) : Type 0 where
  pub is : IsPartlyWritten rows w index new
  pub rows_are : ring_rows rows w index (with_unwritten (rows * w) new.items) ≡ with_rows count (width all) all i cells

rows_put : (rows w index i first rest : ℕ) (v one two : Vec Cell Global) (cells : List Cell) (all : List (List Cell)) → IsPartlyWritten rows w index v → ring_rows rows w index (with_unwritten (rows * w) v.items) ≡ all → (index + i) % rows + first ≤ rows → rest ≤ rows → (0 < rest → (index + i) % rows + first ≡ rows) → (first + rest) * w ≤ length cells
    → IsPutInto rows w index ((index + i) % rows) first v one cells → IsPutInto rows w index 0 rest one two (drop (first * w) cells) → ArePut rows w index i (first + rest) all two cells
rows_put rows w index i first rest v one two cells all is view fits few turns has a b =
    let ys = with_unwritten (rows * w) one.items in
    let later = drop (first * w) cells in
    let next = (i + first) % rows in
    let sum = add-mul first rest w in
    let front : ring_rows rows w index ys ≡ with_rows first w all i cells = grind (arith, block_written) in
    let back : ring_rows rows w index (with_unwritten (rows * w) two.items) ≡ with_rows rest w (ring_rows rows w index ys) next later =
    ⊎_elim (λ (some : 0 < rest).
    let sum_of : index + (i + first) ≡ (index + i) + first = omega arith in
    let zeroth : (index + next) % rows ≡ 0 = mod_right index (i + first) rows ∙ ap (λ (m : ℕ). m % rows) sum_of ∙ sym (mod_left (index + i) first rows) ∙ ap (λ (m : ℕ). m % rows) (turns some) ∙ mod_self rows in
    grind (arith, common_steps, block_written))
    (λ (none : rest ≤ 0). grind arith)
    (cases_lt 0 rest) in
    grind (arith, row_count, rows_on, row_width)

-- all of them, once each part is put
parts_put : (rows w index i count : ℕ) (v one two : Vec Cell Global) (cells : List Cell) (all : List (List Cell)) → IsPartlyWritten rows w index v → ring_rows rows w index (with_unwritten (rows * w) v.items) ≡ all → count ≤ rows → count * w ≤ length cells
    → let first = min count (rows - (index + i) % rows) in IsPutInto rows w index ((index + i) % rows) first v one cells → IsPutInto rows w index 0 (count - first) one two (drop (first * w) cells) → ArePut rows w index i count all two cells
parts_put rows w index i count v one two cells all is view few has a b =
    let first = min count (rows - (index + i) % rows) in
    let sum : first + (count - first) ≡ count = omega arith in
    grind (arith, rows_put)

pub are_put : {rows w index i count start first rest : ℕ} {v one two : Vec Cell Global} {all : List (List Cell)} {cells front later : List Cell} → IsPartlyWritten rows w index v → ring_rows rows w index (with_unwritten (rows * w) v.items) ≡ all → AreParts rows w index i count start first rest
    → count ≤ length all → length cells ≡ count * width all → front ≡ take first cells → later ≡ drop first cells → Puts start front v one → Puts 0 later one two → ArePut rows w index i count all two cells
are_put {rows} {w} {index} {i} {count} {start} {v} {one} {two} {all} {cells} {front} {later} is view parts few long front_is later_is a b =
    let at = (index + i) % rows in
    let n = min count (rows - at) in
    let behind = drop (n * w) cells in
    let below : at < rows = mod_below (index + i) rows is.ring.some_rows in
    let fewer : count ≤ rows = omega (arith, few, row_count is view) in
    let whole : length cells ≡ count * w = long ∙ ap (λ (k : ℕ). count * k) (row_width is view) in
    let both : count * w ≡ n * w + (count - n) * w = omega (arith, parts.in_front, parts.others, parts_all parts) in
    let left : length behind ≡ (count - n) * w = omega (arith, length-drop (n * w) cells, whole, both) in
    let later_whole : later ≡ take ((count - n) * w) behind = later_is ∙ ap (λ (k : ℕ). drop k cells) parts.in_front ∙ sym (take_all ((count - n) * w) behind (omega (arith, left))) in
    let x = block_put rows w index at n v one cells front start is (omega (arith, below)) (omega (arith, whole, both)) (front_is ∙ ap (λ (k : ℕ). take k cells) parts.in_front) parts.starts a in
    let y = block_put rows w index 0 (count - n) one two behind later 0 x.is (omega (arith, fewer)) (omega (arith, left)) later_whole (omega arith) b in
    parts_put rows w index i count v one two cells all is view fewer (omega (arith, whole)) x y

-- ---- rows are made unknown

pub record Forgets (start count : ℕ) (v new : Vec Cell Global) : Type 0 where
  pub cells : (all : ℕ) → length v.items ≤ all → start + count ≤ all
      → with_unwritten all new.items ≡ take start (with_unwritten all v.items) ++ (replicate count Unknown ++ drop count (drop start (with_unwritten all v.items)))
  pub as_many : length new.items ≡ length v.items
  pub room : vec_capacity v ≤ vec_capacity new

block_forgotten : (rows w index k n start count : ℕ) (v new : Vec Cell Global) (cells : List Cell) → IsPartlyWritten rows w index v → k + n ≤ rows → n * w ≤ length cells → take (n * w) cells ≡ replicate (n * w) Unknown → start ≡ k * w → count ≡ n * w
    → Forgets start count v new → IsPutInto rows w index k n v new cells
block_forgotten rows w index k n start count v new cells is fits has unknown start_is count_is gone = grind (arith, common_steps, cells_le (k + n) rows w fits, length-with_block)

pub are_forgotten : {rows w index i count start first rest : ℕ} {v one two : Vec Cell Global} {all : List (List Cell)} → IsPartlyWritten rows w index v → ring_rows rows w index (with_unwritten (rows * w) v.items) ≡ all → AreParts rows w index i count start first rest
    → count ≤ length all → Forgets start first v one → Forgets 0 rest one two → ArePut rows w index i count all two (replicate (count * width all) Unknown)
are_forgotten {rows} {w} {index} {i} {count} {start} {first} {rest} {v} {one} {two} {all} is view parts few a b =
    let at = (index + i) % rows in
    let n = min count (rows - at) in
    let cells = replicate (count * w) Unknown in
    let later = drop (n * w) cells in
    let below : at < rows = mod_below (index + i) rows is.ring.some_rows in
    let fewer : count ≤ rows = omega (arith, few, row_count is view) in
    let both : count * w ≡ n * w + (count - n) * w = omega (arith, parts.in_front, parts.others, parts_all parts) in
    let long = length-replicate (count * w) Unknown in
    let left : later ≡ replicate (count * w - n * w) Unknown = drop-replicate (n * w) (count * w) Unknown in
    let has : (count - n) * w ≤ length later = omega (arith, both, long, length-drop (n * w) cells) in
    let x = block_forgotten rows w index at n start first v one cells is (omega (arith, below)) (omega (arith, both, long)) (take-replicate (n * w) (count * w) Unknown (omega (arith, both))) parts.starts parts.in_front a in
    let y = block_forgotten rows w index 0 (count - n) 0 rest one two later x.is (omega (arith, fewer)) has (ap (take ((count - n) * w)) left ∙ take-replicate ((count - n) * w) (count * w - n * w) Unknown (omega (arith, both))) (omega arith) parts.others b in
    grind (arith, row_width, parts_put)

-- ---- a row is lent, and comes back with as many cells

came_back : (all w at start : ℕ) (v : Vec Cell Global) (row : List Cell) → at * w + w ≤ length v.items → length row ≡ w → start ≡ at * w
    → with_unwritten all (with_items_from v start row).items ≡ with_cells w at (with_unwritten all v.items) row
came_back all w at start v row fits e start_is = grind (arith, vec_written, written_over)

whole_back : (w at start : ℕ) (v : Vec Cell Global) (row : List Cell) → AreWhole w v.items → at * w + w ≤ length v.items → length row ≡ w → start ≡ at * w → AreWhole w (with_items_from v start row).items
whole_back w at start v row ends fits e start_is = grind (arith, vec_written, length-with_cells)

-- the cells that are lent
abbrev pub lent : ℕ → ℕ → Vec Cell Global → List Cell
lent w start v = slice_range v.items start (start + w)

-- and as they come back
abbrev pub came : ℕ → ℕ → Vec Cell Global → List Cell → List Cell
came w start v cells = refill (length (lent w start v)) (lent w start v) cells

lent_is : (w at start : ℕ) (v : Vec Cell Global) → start ≡ at * w → lent w start v ≡ row_of w v.items at
lent_is w at start v start_is = grind arith

length-came : (w at start : ℕ) (v : Vec Cell Global) (cells : List Cell) → start ≡ at * w → at * w + w ≤ length v.items → length (came w start v cells) ≡ w
length-came w at start v cells start_is fits = grind (arith, length_refill (length (lent w start v)) (lent w start v) cells refl, lent_is w, length-row_of w v.items)

-- what the loan of row i says of the rows
pub record IsLent (rows w index i start : ℕ) (all : List (List Cell)) (v : Vec Cell Global) : Type 0 where
  pub value : lent w start v ≡ nth_row all i
  pub is : (cells : List Cell) → IsPartlyWritten rows w index (with_items_from v start (came w start v cells))
  pub rows_are : (cells : List Cell) → ring_rows rows w index (with_unwritten (rows * w) (with_items_from v start (came w start v cells)).items) ≡ with_row all i cells

pub row_lent : {rows w index at i start : ℕ} {v : Vec Cell Global} {all : List (List Cell)} → IsFilled rows w index (at + 1) all v → at ≡ (index + i) % rows → i < length all → start ≡ at * w → IsLent rows w index i start all v
row_lent {rows} {w} {index} {at} {i} {start} {v} {all} filled at_is within start_is =
    let xs = v.items in
    let ys = with_unwritten (rows * w) xs in
    let there : i < rows = omega (arith, row_count filled.is filled.view) in
    let below : at < rows = omega (arith, at_is, mod_below (index + i) rows filled.is.ring.some_rows) in
    let fits : at * w + w ≤ length xs = omega (arith, filled.long, one_more at w) in
    let value : lent w start v ≡ nth_row all i = grind (arith, lent_is, row_written, nth_row-ring_rows, row_count, mod_below, one_more, length-came, came_back, ring_fits, still_ring, length-with_cells, whole_back, ring_written) in
    let wide : (cells : List Cell) → length (came w start v cells) ≡ w = λ cells. length-came w at start v cells start_is fits in
    let back : (cells : List Cell) → with_unwritten (rows * w) (with_items_from v start (came w start v cells)).items ≡ with_cells w at ys (came w start v cells) = λ cells. came_back (rows * w) w at start v (came w start v cells) fits (wide cells) start_is in
    let whole = ring_fits rows w index at ys filled.is.ring below in
    record {
      value = value;
      is = λ cells. let new = came w start v cells in
          still_ring filled.is (ap length (back cells) ∙ length-with_cells w at ys new whole (wide cells)) (omega arith) (whole_back w at start v new filled.is.ends fits (wide cells) start_is);
      rows_are = λ cells. grind (arith, ring_written, row_count, mod_below, one_more, lent_is, row_written, nth_row-ring_rows, length-came, came_back, ring_fits, still_ring, length-with_cells, whole_back);
    }
