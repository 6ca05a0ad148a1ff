-- Rings of which a front is written, and the rest unknown.
use Rattle.std.proofs.lemmas.Grind.{common_steps}
use Rattle.rrd_ring.proofs.Names.{Vec, Global, ◌≡◌, ◌⊎◌, min, refl, sym, ◌∙◌, ap, ℕ, zero, suc, ◌+◌, ◌-◌, ◌*◌, ◌/◌, ◌%◌, ◌<◌, ◌≤◌, List, [], ◌∷◌, ◌++◌, length, take, drop, replicate, ⊎_elim, arith, length-append, length-drop, vec_len, vec_capacity, add-mul, cases_lt, row_fits, mod_below, append_assoc, append-nil, take-append-drop, replicate-append-replicate, length-take-le, length-replicate, take-append-le, drop-append-le, drop-drop, take_at, drop_at, take_all, drop_all, take-replicate, drop-replicate, with_items_is, Cell, Unknown, HasWidth, width, max_rows, newest_rows, unknown_rows, cells_in, from_index, ring_rows, rows_of, with_unwritten, AreParts, AreRows, AreWhole, AreWritten, IsRing, IsPartlyWritten, with_items}
use Rattle.rrd_ring.proofs.RingLemmas.{cells_le, with_cells, length-parts, length-ring_rows, length-rows_of, length-with_cells, ring_at_front, ring_fits, ring_len, ring_push, ring_put_back, ring_take, ring_unknown, ring_width, rows_len, rows_of-append, rows_of-parts, rows_of_unknown, same_cells, same_rows}

-- ---- the cells

pub length-with_unwritten : (all : ℕ) (xs : List Cell) → length xs ≤ all → length (with_unwritten all xs) ≡ all
length-with_unwritten all xs h = omega (arith, length-append xs (replicate (all - length xs) Unknown), length-replicate (all - length xs) Unknown)

-- there are no more than all
pub written_le : (all : ℕ) (xs : List Cell) → length (with_unwritten all xs) ≡ all → length xs ≤ all
written_le all xs h = omega (arith, length-append xs (replicate (all - length xs) Unknown))

pub all_written : (all : ℕ) (xs : List Cell) → length xs ≡ all → with_unwritten all xs ≡ xs
all_written all xs h = grind (arith, append-nil)

-- filled up as far as they are, they are the same
pub filled_enough : (n : ℕ) (xs : List Cell) → n ≤ length xs → with_unwritten n xs ≡ xs
filled_enough n xs h = grind (arith, append-nil)

-- and further
pub filled_further : (all n : ℕ) (xs : List Cell) → n ≤ all → with_unwritten all (with_unwritten n xs) ≡ with_unwritten all xs
filled_further all n xs h = grind (arith, common_steps, length-with_unwritten n xs, append_assoc xs, replicate-append-replicate, filled_enough n xs, cases_lt)

pub filled_long : (n : ℕ) (xs : List Cell) → n ≤ length (with_unwritten n xs)
filled_long n xs = omega (arith, length-append xs (replicate (n - length xs) Unknown), length-replicate (n - length xs) Unknown)

-- whole rows stay whole
pub whole_filled : (w k : ℕ) (xs : List Cell) → AreWhole w xs → AreWhole w (with_unwritten (k * w) xs)
whole_filled w k xs is = grind (arith, length-with_unwritten, filled_enough)

pub row_written : (all start w : ℕ) (xs : List Cell) → start + w ≤ length xs → take w (drop start xs) ≡ take w (drop start (with_unwritten all xs))
row_written all start w xs h = grind (arith, common_steps)

-- those that aren't are unknown
pub unknown_there : (all start n : ℕ) (xs : List Cell) → length xs ≤ start → start + n ≤ all → take n (drop start (with_unwritten all xs)) ≡ replicate n Unknown
unknown_there all start n xs h fits =
    let rest = replicate (all - length xs) Unknown in
    let past = start - length xs in
    let later : drop start (xs ++ rest) ≡ replicate (all - length xs - past) Unknown = grind (arith, drop-drop past (length xs) (xs ++ rest), drop_at xs rest (length xs) refl, drop-replicate past (all - length xs) Unknown) in
    ap (take n) later ∙ take-replicate n (all - length xs - past) Unknown (omega arith)

pub row_unwritten : (all start w : ℕ) (xs : List Cell) → length xs ≤ start → start + w ≤ all → replicate w Unknown ≡ take w (drop start (with_unwritten all xs))
row_unwritten all start w xs h fits = sym (unknown_there all start w xs h fits)

-- ---- a row is written

-- over a written one
pub written_over : (all w start : ℕ) (ys row : List Cell) → start + w ≤ length ys → length row ≡ w
    → with_unwritten all (take start ys ++ (row ++ drop (length row) (drop start ys))) ≡ take start (with_unwritten all ys) ++ (row ++ drop w (drop start (with_unwritten all ys)))
written_over all w start ys row fits e = grind (arith, common_steps, length-append, length-append row, length-take-le start ys, length-drop w (drop start ys), length-drop start ys, append_assoc)

-- or behind the last one
pub written_behind : (all w k : ℕ) (ys row : List Cell) → k * w ≡ length ys → k * w + w ≤ all → length row ≡ w
    → with_unwritten all (take (k * w) ys ++ (row ++ drop (length row) (drop (k * w) ys))) ≡ with_cells w k (with_unwritten all ys) row
written_behind all w k ys row end fits e =
    let start = k * w in
    let rest = replicate (all - length ys) Unknown in
    let long : length (ys ++ row) ≡ length ys + w = omega (arith, length-append ys row) in
    let less : all - (length ys + w) ≡ all - length ys - w = omega arith in
    let front : take start ys ≡ ys = take_all start ys (omega arith) in
    let none : drop (length row) (drop start ys) ≡ [] = ap (drop (length row)) (drop_all start ys (omega arith)) ∙ drop_all (length row) [] (omega arith) in
    ap (with_unwritten all) (ap (λ (zs : List Cell). zs ++ (row ++ drop (length row) (drop start ys))) front ∙ ap (λ (zs : List Cell). ys ++ (row ++ zs)) none ∙ ap (λ (zs : List Cell). ys ++ zs) (append-nil row))
    ∙ append_assoc ys row (replicate (all - length (ys ++ row)) Unknown)
    ∙ ap (λ (n : ℕ). ys ++ (row ++ replicate n Unknown)) (ap (λ (n : ℕ). all - n) long ∙ less)
    ∙ ap (λ (zs : List Cell). ys ++ (row ++ zs)) (sym (ap (drop w) (drop_at ys rest start (sym end)) ∙ drop-replicate w (all - length ys) Unknown))
    ∙ ap (λ (zs : List Cell). zs ++ (row ++ drop w (drop start (ys ++ rest)))) (sym (take_at ys rest start (sym end)))

-- ---- cells are made unknown

-- those that are so already
same_unknown : (start n : ℕ) (ys : List Cell) → take n (drop start ys) ≡ replicate n Unknown → ys ≡ take start ys ++ (replicate n Unknown ++ drop n (drop start ys))
same_unknown start n ys e = grind (arith, common_steps)

pub never_written : (all start n : ℕ) (xs : List Cell) → start + n ≤ all → min (length xs) (start + n) ≤ start
    → with_unwritten all xs ≡ take start (with_unwritten all xs) ++ (replicate n Unknown ++ drop n (drop start (with_unwritten all xs)))
never_written all start n xs fits h = grind (arith, same_unknown, unknown_there)

-- and those that are written
pub forgotten : (all start n end : ℕ) (xs new : List Cell) → start + n ≤ all → end ≡ min (length xs) (start + n) → start < end
    → new ≡ take start xs ++ (replicate (end - start) Unknown ++ drop (end - start) (drop start xs))
    → with_unwritten all new ≡ take start (with_unwritten all xs) ++ (replicate n Unknown ++ drop n (drop start (with_unwritten all xs)))
forgotten all start n end xs new fits is some items =
    let ys = with_unwritten all xs in
    let back = drop start ys in
    let m = end - start in
    let more = n - m in
    let gone = replicate m Unknown in
    let count : length gone ≡ m = length-replicate m Unknown in
    let sum : m + more ≡ n = omega (arith, is, some) in
    let later : drop m back ≡ drop (start + m) ys = drop-drop m start ys in
    let others : take more (drop m back) ≡ replicate more Unknown = grind (arith, unknown_there) in
    ap (with_unwritten all) (items ∙ ap (λ (k : ℕ). take start xs ++ (gone ++ drop k (drop start xs))) (sym count))
    ∙ written_over all m start xs gone (omega (arith, is, some)) count
    ∙ ap (λ (zs : List Cell). take start ys ++ (gone ++ zs)) (sym (take-append-drop more (drop m back)) ∙ ap (λ (zs : List Cell). zs ++ drop more (drop m back)) others)
    ∙ ap (λ (zs : List Cell). take start ys ++ zs) (sym (append_assoc gone (replicate more Unknown) (drop more (drop m back))))
    ∙ ap (λ (zs : List Cell). take start ys ++ (zs ++ drop more (drop m back))) (replicate-append-replicate m more Unknown ∙ ap (λ (k : ℕ). replicate k Unknown) sum)
    ∙ ap (λ (zs : List Cell). take start ys ++ (replicate n Unknown ++ zs)) (drop-drop more m back ∙ ap (λ (k : ℕ). drop k back) sum)

-- ---- the invariant

-- how many rows there are, and how many cells each has
pub row_count : {rows w index : ℕ} {v : Vec Cell Global} {all : List (List Cell)} → IsPartlyWritten rows w index v → ring_rows rows w index (with_unwritten (rows * w) v.items) ≡ all → length all ≡ rows
row_count {rows} {w} {index} {v} {all} is view = ring_len rows w index (with_unwritten (rows * w) v.items) all view

pub row_width : {rows w index : ℕ} {v : Vec Cell Global} {all : List (List Cell)} → IsPartlyWritten rows w index v → ring_rows rows w index (with_unwritten (rows * w) v.items) ≡ all → width all ≡ w
row_width {rows} {w} {index} {v} {all} is view = ring_width rows w index (with_unwritten (rows * w) v.items) all is.ring view

pub ring_le : (rows w index : ℕ) (v : Vec Cell Global) → IsPartlyWritten rows w index v → length v.items ≤ rows * w
ring_le rows w index v is = written_le (rows * w) v.items is.ring.whole

-- what is written are whole rows
pub whole_row : (w k : ℕ) (xs : List Cell) → AreWhole w xs → k * w < length xs → k * w + w ≤ length xs
whole_row w k xs is below = grind (arith, row_fits, cells_le)

-- a row that doesn't begin behind the last one is written, or it is the next one to be
pub next_row : (w k : ℕ) (xs : List Cell) → AreWhole w xs → k * w ≤ length xs → (k * w + w ≤ length xs) ⊎ (k * w ≡ length xs)
next_row w k xs is le = grind (arith, whole_row)

-- so many rows are written
pub rows_in : (w : ℕ) (xs : List Cell) → 0 < w → AreWhole w xs → length xs / w * w ≡ length xs
rows_in w xs some is = grind arith

-- of rows that lie together, as far as they are written or one that isn't, there are no more than all
pub run_fits : (rows w index n written : ℕ) (xs : List Cell) → 0 < w → written * w ≡ length xs → length xs ≤ rows * w → index < rows → (index < written → index + n ≤ written) → (written ≤ index → n ≡ 1) → index + n ≤ rows
run_fits rows w index n written xs some is few within before behind = grind (arith, add-mul, cells_le)

pub run_whole : (w index n written : ℕ) (xs : List Cell) → written * w ≡ length xs → (index < written → index + n ≤ written) → index * w < length xs → index * w + n * w ≤ length xs
run_whole w index n written xs is before below = grind (arith, common_steps, add-mul index n w, cells_le (index + n) written w, cells_le written index w, cases_lt index written)

pub run_one : (w index n written : ℕ) (xs : List Cell) → 0 < w → written * w ≡ length xs → (written ≤ index → n ≡ 1) → length xs ≤ index * w → n * w ≡ w
run_one w index n written xs some is behind past = grind (arith, common_steps, add-mul index 1 w, cells_le (index + 1) written w, cases_lt index written)

-- other cells, if they are as many and in whole rows
pub same_ring : (rows w index : ℕ) (xs ys : List Cell) → IsRing rows w index xs → length ys ≡ length xs → IsRing rows w index ys
same_ring rows w index xs ys is e = record { some_rows = is.some_rows; few_rows = is.few_rows; some_sources = is.some_sources; few_sources = is.few_sources; whole = e ∙ is.whole; index_within = is.index_within }

pub still_ring : {rows w index : ℕ} {v new : Vec Cell Global} → IsPartlyWritten rows w index v → length (with_unwritten (rows * w) new.items) ≡ length (with_unwritten (rows * w) v.items) → vec_capacity v ≤ vec_capacity new → AreWhole w new.items → IsPartlyWritten rows w index new
still_ring {rows} {w} {index} {v} {new} is as_long room ends = grind arith

-- filled up as far as row k, it is the same ring
pub record IsFilled (rows w index k : ℕ) (all : List (List Cell)) (new : Vec Cell Global) : Type 0 where
  pub is : IsPartlyWritten rows w index new
  pub view : ring_rows rows w index (with_unwritten (rows * w) new.items) ≡ all
  pub long : k * w ≤ length new.items

pub ring_filled : {rows w index k end : ℕ} {v new : Vec Cell Global} {all : List (List Cell)} → IsPartlyWritten rows w index v → ring_rows rows w index (with_unwritten (rows * w) v.items) ≡ all → k ≤ rows → end ≡ k * w → new.items ≡ with_unwritten end v.items → vec_capacity v ≤ vec_capacity new
    → IsFilled rows w index k all new
ring_filled {rows} {w} {index} {k} {end} {v} {new} is view h end_is put room = grind (arith, filled_further, cells_le, still_ring, whole_filled, filled_long)

-- the ring with a row in the place of its oldest one
pushed_cells : (rows w index : ℕ) (v : Vec Cell Global) (row : List Cell) → IsPartlyWritten rows w index v → index * w ≤ length v.items → length row ≡ w
    → with_unwritten (rows * w) (take (index * w) v.items ++ (row ++ drop (length row) (drop (index * w) v.items))) ≡ with_cells w index (with_unwritten (rows * w) v.items) row
pushed_cells rows w index v row is le e = grind (arith, common_steps, written_over, written_behind, row_fits, next_row)

pub length-put : (start w : ℕ) (ys row : List Cell) → length row ≡ w → start + w ≤ length ys → length (take start ys ++ (row ++ drop (length row) (drop start ys))) ≡ length ys
length-put start w ys row e h = grind (arith, common_steps, length-append)

length-put_behind : (start w : ℕ) (ys row : List Cell) → length row ≡ w → start ≡ length ys → length (take start ys ++ (row ++ drop (length row) (drop start ys))) ≡ start + w
length-put_behind start w ys row e h = grind (arith, common_steps, length-append)

-- after a row was written over another or behind the last one, whole rows are written
pushed_ends : (w index : ℕ) (ys row : List Cell) → AreWhole w ys → index * w ≤ length ys → length row ≡ w → AreWhole w (take (index * w) ys ++ (row ++ drop (length row) (drop (index * w) ys)))
pushed_ends w index ys row is le e =
    let new = take (index * w) ys ++ (row ++ drop (length row) (drop (index * w) ys)) in
    let next : (index + 1) * w ≡ index * w + w = add-mul index 1 w ∙ (let one : index * w + 1 * w ≡ index * w + w = omega arith in one) in
    ⊎_elim (λ (over : index * w + w ≤ length ys). let it : AreWhole w new = record { count = is.count; whole = length-put (index * w) w ys row e over ∙ is.whole } in it)
    (λ (behind : index * w ≡ length ys). let it : AreWhole w new = record { count = index + 1; whole = length-put_behind (index * w) w ys row e behind ∙ sym next } in it)
    (next_row w index ys is le)

-- a row was pushed
pub record IsPushed (rows w index : ℕ) (all : List (List Cell)) (new : Vec Cell Global) (row : List Cell) : Type 0 where
  pub is : IsPartlyWritten rows w ((index + 1) % rows) new
  pub rows_are : ring_rows rows w ((index + 1) % rows) (with_unwritten (rows * w) new.items) ≡ drop 1 (all ++ row ∷ [])

pub row_pushed : {rows w index start : ℕ} {v new : Vec Cell Global} {all : List (List Cell)} {row : List Cell} → IsFilled rows w index index all v → start ≡ index * w → length row ≡ width all
    → new.items ≡ take start v.items ++ (row ++ drop (length row) (drop start v.items)) → vec_capacity new ≡ vec_capacity v → IsPushed rows w index all new row
row_pushed {rows} {w} {index} {start} {v} {new} {all} {row} filled start_is one_each put room = grind (arith, common_steps, row_width, pushed_cells rows w index v row, length-with_cells w index, ring_fits rows w index index, mod_below (index + 1) rows, pushed_ends w index v.items row, ring_push rows w index)

-- all of it is written
pub wholly : (rows w index : ℕ) (v : Vec Cell Global) → IsRing rows w index v.items → IsPartlyWritten rows w index v
wholly rows w index v is = grind (arith, all_written)

-- ---- what isn't written

which : (rows w index written : ℕ) (v : Vec Cell Global) → AreWritten rows w index (vec_len v) written → (written ≡ rows) ⊎ (((written ≡ index) × (length v.items ≤ index * w)) ⊎ ((written ≡ 0) × (length v.items ≡ 0)))
which rows w index written v are = grind arith

-- the others are the oldest, and unknown
unwritten_rows : (rows w index written : ℕ) (v : Vec Cell Global) → IsPartlyWritten rows w index v → AreWritten rows w index (vec_len v) written
    → take (rows - written) (ring_rows rows w index (with_unwritten (rows * w) v.items)) ≡ unknown_rows (rows - written) w
unwritten_rows rows w index written v is are = grind (arith, common_steps, add-mul index, take-append-le, length-drop, unknown_there, ring_take, rows_of_unknown, take_all, ring_unknown, take-replicate, which rows w index written v are)

pub never_written_rows : {rows w index len written : ℕ} {v : Vec Cell Global} {all : List (List Cell)} → IsPartlyWritten rows w index v → ring_rows rows w index (with_unwritten (rows * w) v.items) ≡ all → len ≡ vec_len v → AreWritten rows w index len written
    → take (rows - written) all ≡ unknown_rows (rows - written) w
never_written_rows {rows} {w} {index} {len} {written} {v} is view len_is are = grind (arith, unwritten_rows)

-- the newest rows, where the oldest of them are unknown: as many as there are of the others, after unknown ones
newest_of_known : (n known w : ℕ) (rows : List (List Cell)) → known ≤ length rows → width rows ≡ w → take (length rows - known) rows ≡ unknown_rows (length rows - known) w
    → unknown_rows (n - min n known) w ++ drop (length rows - min n known) rows ≡ newest_rows n rows
newest_of_known n known w rows few e unknown =
    let gap = length rows - known in
    let known_rows = drop gap rows in
    ⊎_elim (λ (fewer : known < n).
    let less = length rows - n in
    let kept : min n known ≡ known = omega arith in
    let added : n - length rows + (gap - less) ≡ n - known = omega arith in
    let cut : drop less rows ≡ unknown_rows (gap - less) w ++ known_rows =
    ap (drop less) (sym (take-append-drop gap rows) ∙ ap (λ (zs : List (List Cell)). zs ++ known_rows) unknown)
    ∙ drop-append-le less (unknown_rows gap w) known_rows (omega (arith, length-replicate gap (replicate w Unknown)))
    ∙ ap (λ (zs : List (List Cell)). zs ++ known_rows) (drop-replicate less gap (replicate w Unknown)) in
    ap (λ (k : ℕ). unknown_rows (n - k) w ++ drop (length rows - k) rows) kept
    ∙ ap (λ (k : ℕ). unknown_rows k w ++ known_rows) (sym added)
    ∙ ap (λ (zs : List (List Cell)). zs ++ known_rows) (sym (replicate-append-replicate (n - length rows) (gap - less) (replicate w Unknown)))
    ∙ append_assoc (unknown_rows (n - length rows) w) (unknown_rows (gap - less) w) known_rows
    ∙ ap (λ (zs : List (List Cell)). unknown_rows (n - length rows) w ++ zs) (sym cut)
    ∙ ap (λ (k : ℕ). unknown_rows (n - length rows) k ++ drop less rows) (sym e))
    (λ (more : n ≤ known). grind arith)
    (cases_lt known n)

-- ---- copies

take_parts : (n : ℕ) (xs ys : List Cell) → take n (xs ++ ys) ≡ take n xs ++ take (n - length xs) ys
take_parts zero [] ys = refl
take_parts zero (x ∷ xs) ys = let none : 0 - length (x ∷ xs) ≡ 0 = omega arith in sym (ap (λ (n : ℕ). take n ys) none)
take_parts (suc n) [] ys = let every : suc n - 0 ≡ suc n = omega arith in sym (ap (λ (k : ℕ). take k ys) every)
take_parts (suc n) (x ∷ xs) ys = grind (arith, take_parts n xs ys)

-- those that are written, and unknown ones for the others
pub part_copied : (all s n : ℕ) (xs : List Cell) → length xs ≤ all → s + n ≤ all
    → take (min n (length xs - min s (length xs))) (drop (min s (length xs)) xs) ++ replicate (n - min n (length xs - min s (length xs))) Unknown ≡ take n (drop s (with_unwritten all xs))
part_copied all s n xs fits h =
    let rest = replicate (all - length xs) Unknown in
    ⊎_elim (λ (past : length xs < s).
    let first : min s (length xs) ≡ length xs = omega arith in
    let more = s - length xs in
    let later : drop s (xs ++ rest) ≡ replicate (all - length xs - more) Unknown = grind (arith, drop-drop more (length xs) (xs ++ rest), drop_at xs rest (length xs) refl, drop-replicate more (all - length xs) Unknown) in
    grind (arith, take-replicate))
    (λ (within : s ≤ length xs). grind (arith, common_steps, take_parts, take-replicate))
    (cases_lt (length xs) s)

-- ---- rows are copied

pub record AreCopied (n w : ℕ) (old : List (List Cell)) (new : List Cell) : Type 0 where
  pub are : AreRows n w new
  pub rows_are : rows_of n w new ≡ take n old

-- the oldest
pub oldest_copied : {rows w index n start front rest : ℕ} {v : Vec Cell Global} {new : List Cell} {all : List (List Cell)} → IsPartlyWritten rows w index v → ring_rows rows w index (with_unwritten (rows * w) v.items) ≡ all → AreParts rows w index 0 n start front rest → n ≤ length all
    → new ≡ cells_in start front rest (with_unwritten (rows * w) v.items) → AreCopied n w all new
oldest_copied {rows} {w} {index} {n} {v = v} {new = new} is view parts few items =
    let xs = with_unwritten (rows * w) v.items in
    let fewer : n ≤ rows = omega (arith, row_count is view) in
    let few_rows : rows ≤ max_rows = is.ring.few_rows in
    record {
      are = record { few_rows = omega arith; some_sources = is.ring.some_sources; few_sources = is.ring.few_sources; whole = ap length items ∙ length-parts xs parts is.ring fewer };
      rows_are = ap (rows_of n w) items ∙ rows_of-parts xs parts is.ring (omega arith) ∙ ap (take n) view;
    }

-- the newest, after unknown ones
pub record IsResized (n w : ℕ) (old : List (List Cell)) (new : Vec Cell Global) : Type 0 where
  pub is : IsPartlyWritten n w 0 new
  pub rows_are : ring_rows n w 0 (with_unwritten (n * w) new.items) ≡ newest_rows n old

pub newest_copied : {rows w index len known n kept start front rest : ℕ} {v new : Vec Cell Global} {all : List (List Cell)} → IsPartlyWritten rows w index v → ring_rows rows w index (with_unwritten (rows * w) v.items) ≡ all → len ≡ vec_len v → AreWritten rows w index len known → known ≤ rows → 0 < n → n ≤ max_rows → kept ≡ min n known
    → AreParts rows w index (rows - kept) kept start front rest → new.items ≡ replicate ((n - kept) * w) Unknown ++ cells_in start front rest (with_unwritten (rows * w) v.items) → IsResized n w all new
newest_copied {rows} {w} {index} {len} {known} {n} {kept} {start} {front} {rest} {v} {new} {all} is view len_is are few some few_rows least parts items =
    let xs = with_unwritten (rows * w) v.items in
    let ring = ring_rows rows w index xs in
    let unknown = replicate ((n - kept) * w) Unknown in
    let part = cells_in start front rest xs in
    let count = row_count is view in
    let within : kept ≤ rows = omega arith in
    let all_rows : n ≡ n - kept + kept = omega arith in
    let sum : n * w ≡ (n - kept) * w + kept * w = ap (λ (k : ℕ). k * w) all_rows ∙ add-mul (n - kept) kept w in
    let both : length (unknown ++ part) ≡ n * w = omega (arith, length-append unknown part, length-replicate ((n - kept) * w) Unknown, length-parts xs parts is.ring within, sum) in
    let long = ap length items ∙ both in
    let newest : take kept (drop (rows - kept) ring) ≡ drop (rows - kept) all = take_all kept (drop (rows - kept) ring) (omega (arith, length-drop (rows - kept) ring, ap length view, count)) ∙ ap (drop (rows - kept)) view in
    let oldest : take (length all - known) all ≡ unknown_rows (length all - known) w = rw count (never_written_rows is view len_is are) in
    record {
      is = wholly n w 0 new (record { some_rows = some; few_rows = few_rows; some_sources = is.ring.some_sources; few_sources = is.ring.few_sources; whole = long; index_within = some });
      rows_are = ap (ring_rows n w 0) (all_written (n * w) new.items long)
          ∙ ring_at_front n w new.items some long
          ∙ ap (rows_of n w) items
          ∙ ap (λ (k : ℕ). rows_of k w (unknown ++ part)) all_rows
          ∙ rows_of-append (n - kept) kept w unknown part (length-replicate ((n - kept) * w) Unknown)
          ∙ ap (λ (zs : List (List Cell)). zs ++ rows_of kept w part) (rows_of_unknown (n - kept) w)
          ∙ ap (λ (zs : List (List Cell)). unknown_rows (n - kept) w ++ zs) (rows_of-parts xs parts is.ring (omega arith) ∙ newest)
          ∙ ap (λ (k : ℕ). unknown_rows (n - kept) w ++ drop (k - kept) all) (sym count)
          ∙ ap (λ (k : ℕ). unknown_rows (n - k) w ++ drop (length all - k) all) least
          ∙ newest_of_known n known w all (omega (arith, count)) (row_width is view) oldest;
    }

-- ---- rows are put back

-- the rows are no more than all and as wide, and all cells of both are written
pub record MayPutBack (rows w index n : ℕ) (all old : List (List Cell)) (xs ds : List Cell) : Type 0 where
  pub is : IsRing rows w index xs
  pub view : ring_rows rows w index xs ≡ all
  pub fewer : n ≤ rows
  pub cells : length ds ≡ n * w
  pub rows_are : rows_of n w ds ≡ old

pub ring_filled_up : {rows w index n u end : ℕ} {v : Vec Cell Global} {all old : List (List Cell)} {xs ds : List Cell} → IsPartlyWritten rows w index v → ring_rows rows w index (with_unwritten (rows * w) v.items) ≡ all → AreRows n u ds → rows_of n u ds ≡ old
    → length old ≤ length all → HasWidth (width all) old → end ≡ rows * w → xs ≡ with_unwritten end v.items → MayPutBack rows w index n all old xs ds
ring_filled_up {rows} {w} {index} {n} {u} {v = v} {old = old} {xs = xs} {ds = ds} is view are dropped fits one_width end_is filled = grind (arith, row_width, row_count, rows_len, same_cells, same_rows)

pub record IsPutBack (rows w index : ℕ) (all old : List (List Cell)) (new : Vec Cell Global) : Type 0 where
  pub is : IsPartlyWritten rows w index new
  pub rows_are : ring_rows rows w index (with_unwritten (rows * w) new.items) ≡ old ++ take (length all - length old) all

pub are_put_back : {rows w index n at start : ℕ} {all old : List (List Cell)} {ds : List Cell} (v : Vec Cell Global) (new : List Cell) → MayPutBack rows w index n all old v.items ds → at ≡ (index + (rows - n)) % rows → start ≡ at * w → length new ≡ length v.items
    → from_index start new ≡ ds ++ drop (length ds) (from_index start v.items) → IsPutBack rows w at all old (with_items v new)
are_put_back {rows} {w} {index} {n} {at} {start} {all} {old} {ds} v new before at_is start_is as_long written = grind (arith, with_items_is, length-ring_rows, length-rows_of, wholly, mod_below, all_written, ring_put_back)
