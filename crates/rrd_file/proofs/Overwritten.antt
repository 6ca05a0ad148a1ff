-- Bytes of an earlier time, of which some are written over.
use Rattle.std.specs.Prelude.{◌≡◌, ◌+◌, ◌-◌, ◌*◌, ◌<◌, ◌≤◌, ◌++◌, ℕ, zero, suc, List, [], ◌∷◌, Some, length, take, drop, min, slice_get, slice_range}
use Rattle.rrd_file.proofs.Names.{◌∙◌, sym, ap, refl, arith, get_or, max, length-append, length-drop, length-take, append_assoc, append-nil, AllByRecursion, flat_map, drop-drop, take-add, drop_at, ext_get_or, get_or-drop, get_or-take, take_at, take-append-drop, flat_map-append, flat_map-cons, mul-le, Cell, HasOneEach, row_cells, HoldsRows, row_bytes}
use Rattle.rrd_file.proofs.CellRuns.{bytes_count, cells_bytes, spelled_so}
use Rattle.rrd_file.proofs.Gathering.{one_more}
use Rattle.rrd_file.proofs.Turned.{rows_joined, rows_spelled}
use native.Mathlib.Nat as nat
use Rattle.rrd_spec.proofs.RowsStay.{all_taken}
use Rattle.rrd_base.proofs.Dues.{none_there}
use Rattle.rrd_file.proofs.Turns.{dropped_at}

-- ---- a run of rows, of which the first are there and the others are written over those of an earlier time

pub all_dropped : (sources n : ℕ) (rows : List (List Cell)) → AllByRecursion (HasOneEach sources) rows → AllByRecursion (HasOneEach sources) (drop n rows)
all_dropped sources zero rows all = all
all_dropped sources (suc n) [] all = tt
all_dropped sources (suc n) (row ∷ rows) all = all_dropped sources n rows all.1

module _ (bytes : List (List Cell) → List ℕ) (sources : ℕ)
    (joined : (xs ys : List (List Cell)) → bytes (xs ++ ys) ≡ bytes xs ++ bytes ys)
    (long : (rows : List (List Cell)) → AllByRecursion (HasOneEach sources) rows → length (bytes rows) ≡ 16 * (length rows * sources))
    (before rows : List (List Cell)) (from to : ℕ) (order : from ≤ to) (there : to ≤ length rows) (as_many : length before ≡ to - from)
    (wide_before : AllByRecursion (HasOneEach sources) before) (wide : AllByRecursion (HasOneEach sources) rows) where
  abbrev run_of : ℕ → List (List Cell)
  run_of j = take j (drop from rows)

  many_of : (j : ℕ) → j ≤ to - from → length (run_of j) ≡ j
  many_of j few = omega (arith, few, order, there, length-take j (drop from rows), length-drop {A = List Cell} from rows)

  parts_of : (j : ℕ) → bytes before ≡ bytes (take j before) ++ bytes (drop j before)
  parts_of j = ap bytes (sym (take-append-drop j before)) ∙ joined (take j before) (drop j before)

  pub run_begins_so : (kept index : ℕ) → index ≡ min (max kept from) to → ((i : ℕ) → i < to - from → from + i < kept → get_or before i [] ≡ get_or rows (from + i) [])
      → bytes before ≡ bytes (take (index - from) (drop from rows)) ++ bytes (drop (index - from) before)
  run_begins_so kept index index_is same =
      let j = index - from in
      let few : j ≤ to - from = omega (arith, index_is, order) in
      let many : length (take j before) ≡ j = omega (arith, few, as_many, length-take j before) in
      let begun : take j before ≡ run_of j =
      ext_get_or [] (take j before) (run_of j) (many ∙ sym (many_of j few)) (λ i h.
      let below : i < j = omega (arith, h, many) in
      get_or-take j before i [] below ∙ same i (omega (arith, below, few)) (omega (arith, below, index_is, order))
      ∙ sym (get_or-take j (drop from rows) i [] below ∙ get_or-drop from rows i [])) in
      parts_of j ∙ ap (λ l. bytes l ++ bytes (drop j before)) begun

  pub run_goes_on : (index count at size : ℕ) (into : List ℕ) → from ≤ index → index + count ≤ to → at ≡ 16 * ((index - from) * sources) → size ≡ 16 * (count * sources)
      → into ≡ bytes (take (index - from) (drop from rows)) ++ bytes (drop (index - from) before)
      → take at into ++ (bytes (take count (drop index rows)) ++ drop (at + size) into) ≡ bytes (take (index + count - from) (drop from rows)) ++ bytes (drop (index + count - from) before)
  run_goes_on index count at size into low high at_is size_is into_is =
      let j = index - from in
      let few : j ≤ to - from = omega (arith, high, low) in
      let front = bytes (run_of j) in
      let mine = bytes (take count (drop j before)) in
      let rest = bytes (drop (j + count) before) in
      let left : length (drop j before) ≡ to - from - j = omega (arith, as_many, length-drop j before) in
      let many : length (take count (drop j before)) ≡ count = omega (arith, left, high, low, length-take count (drop j before)) in
      let front_long : length front ≡ at = long (run_of j) (all_taken sources j (drop from rows) (all_dropped sources from rows wide)) ∙ ap (λ k. 16 * (k * sources)) (many_of j few) ∙ sym at_is in
      let mine_long : length mine ≡ size = long (take count (drop j before)) (all_taken sources count (drop j before) (all_dropped sources j before wide_before)) ∙ ap (λ k. 16 * (k * sources)) many ∙ sym size_is in
      let behind : bytes (drop j before) ≡ mine ++ rest =
      ap bytes (sym (take-append-drop count (drop j before))) ∙ joined (take count (drop j before)) (drop count (drop j before)) ∙ ap (λ l. mine ++ bytes l) (drop-drop count j before) in
      let whole : into ≡ front ++ (mine ++ rest) = into_is ∙ ap (λ l. front ++ l) behind in
      let both : length (front ++ mine) ≡ at + size = omega (arith, length-append front mine, front_long, mine_long) in
      let first : take at into ≡ front = ap (take at) whole ∙ take_at front (mine ++ rest) at front_long in
      let last : drop (at + size) into ≡ rest = ap (drop (at + size)) (whole ∙ sym (append_assoc front mine rest)) ∙ drop_at (front ++ mine) rest (at + size) both in
      let here : from + j ≡ index = omega (arith, low) in
      let new = bytes (take count (drop index rows)) in
      let next : j + count ≡ index + count - from = omega (arith, low) in
      let joint : front ++ new ≡ bytes (run_of (j + count)) =
      sym (joined (run_of j) (take count (drop index rows)))
      ∙ ap (λ k. bytes (run_of j ++ take count (drop k rows))) (sym here)
      ∙ ap (λ l. bytes (run_of j ++ take count l)) (sym (drop-drop j from rows))
      ∙ ap bytes (sym (take-add j count (drop from rows))) in
      (λ i. first i ++ (new ++ last i)) ∙ sym (append_assoc front new rest) ∙ ap (λ l. l ++ rest) joint
      ∙ ap (λ k. bytes (run_of k) ++ bytes (drop k before)) next

  pub run_ends : (index : ℕ) (into : List ℕ) → index ≡ to → into ≡ bytes (take (index - from) (drop from rows)) ++ bytes (drop (index - from) before) → into ≡ bytes (slice_range rows from to)
  run_ends index into index_is into_is =
      let j = index - from in
      let left : length (drop j before) ≡ 0 = omega (arith, index_is, as_many, length-drop j before) in
      let none : length (bytes (drop j before)) ≡ 0 =
      omega (arith, long (drop j before) (all_dropped sources j before wide_before), ap (λ k. k * sources) left, nat.zero-mul sources) in
      let empty : bytes (drop j before) ≡ [] = none_there (bytes (drop j before)) none in
      into_is ∙ ap (λ l. bytes (run_of j) ++ l) empty ∙ append-nil (bytes (run_of j)) ∙ ap (λ k. bytes (take (k - from) (drop from rows))) index_is

-- ---- the bytes of all rows of an archive, cut where the oldest begin

module _ (bytes : List (List Cell) → List ℕ) (sources : ℕ)
    (joined : (xs ys : List (List Cell)) → bytes (xs ++ ys) ≡ bytes xs ++ bytes ys)
    (long : (rows : List (List Cell)) → AllByRecursion (HasOneEach sources) rows → length (bytes rows) ≡ 16 * (length rows * sources)) where
  pub record IsCutAt (cells : List ℕ) (at m : ℕ) (rows : List (List Cell)) : Type 0 where
    pub within : at ≤ length cells
    pub newer : take at cells ≡ bytes (take m rows)
    pub older : drop at cells ≡ bytes (drop m rows)

  pub cut_at : (cells : List ℕ) (at m : ℕ) (rows : List (List Cell)) → cells ≡ bytes rows → m ≤ length rows → AllByRecursion (HasOneEach sources) rows → at ≡ 16 * (m * sources) → IsCutAt cells at m rows
  cut_at cells at m rows is few wide at_is =
      let front = bytes (take m rows) in
      let back = bytes (drop m rows) in
      let many : length (take m rows) ≡ m = omega (arith, few, length-take m rows) in
      let front_long : length front ≡ at = long (take m rows) (all_taken sources m rows wide) ∙ ap (λ k. 16 * (k * sources)) many ∙ sym at_is in
      let whole : cells ≡ front ++ back = is ∙ ap bytes (sym (take-append-drop m rows)) ∙ joined (take m rows) (drop m rows) in
      record {
        within = omega (arith, ap length whole, length-append front back, front_long);
        newer = ap (take at) whole ∙ take_at front back at front_long;
        older = ap (drop at) whole ∙ drop_at front back at front_long;
      }

-- ---- items of an earlier time, of which the first were replaced

module _ {A : Type 0} (f g : A → List ℕ) (olds news : List A) where
  abbrev pub so_far : ℕ → List ℕ
  so_far i = flat_map g (take i news) ++ flat_map f (drop i olds)

  pub record IsNext (into : List ℕ) (at i : ℕ) (old new : A) : Type 0 where
    pub within : at + length (f old) ≤ length into
    pub here : take (length (f old)) (drop at into) ≡ f old
    pub then : take at into ++ (g new ++ drop (at + length (f old)) into) ≡ so_far (i + 1)
    pub next : at + length (g new) ≡ length (flat_map g (take (i + 1) news))

  pub is_next : (into : List ℕ) (at i : ℕ) (old new : A) → into ≡ so_far i → at ≡ length (flat_map g (take i news)) → slice_get olds i ≡ Some old → slice_get news i ≡ Some new → IsNext into at i old new
  is_next into at i old new is at_is there there_new =
      let front = flat_map g (take i news) in
      let rest = flat_map f (drop (i + 1) olds) in
      let behind : flat_map f (drop i olds) ≡ f old ++ rest = ap (flat_map f) (dropped_at olds i old there) ∙ flat_map-cons f old (drop (i + 1) olds) in
      let whole : into ≡ front ++ (f old ++ rest) = is ∙ ap (λ l. front ++ l) behind in
      let both : length (front ++ f old) ≡ at + length (f old) = omega (arith, length-append front (f old), at_is) in
      let more : flat_map g (take (i + 1) news) ≡ front ++ g new = one_more g news i new there_new in
      let last : drop (at + length (f old)) into ≡ rest = ap (drop (at + length (f old))) (whole ∙ sym (append_assoc front (f old) rest)) ∙ drop_at (front ++ f old) rest (at + length (f old)) both in
      record {
        within = omega (arith, ap length whole, length-append front (f old ++ rest), length-append (f old) rest, at_is);
        here = ap (λ l. take (length (f old)) (drop at l)) whole ∙ ap (take (length (f old))) (drop_at front (f old ++ rest) at (sym at_is)) ∙ take_at (f old) rest (length (f old)) refl;
        then =
            (λ j. (ap (take at) whole ∙ take_at front (f old ++ rest) at (sym at_is)) j ++ (g new ++ last j))
            ∙ sym (append_assoc front (g new) rest) ∙ ap (λ l. l ++ rest) (sym more);
        next = omega (arith, ap length more, length-append front (g new), at_is);
      }

-- ---- the runs of rows of `put_rows`

-- the rows below an index are there, and from there on those of an earlier time
pub record ArePut (bytes : List ℕ) (rows : List (List Cell)) (sources from to index : ℕ) : Type 0 where
  pub low : from ≤ index
  pub high : index ≤ to
  pub before : List (List Cell)
  pub as_many : length before ≡ to - from
  pub wide : AllByRecursion (HasOneEach sources) before
  pub bytes_are : bytes ≡ row_bytes (take (index - from) (drop from rows)) ++ row_bytes (drop (index - from) before)

-- the bytes of rows, which have one width
pub rows_long : (sources : ℕ) (rows : List (List Cell)) → AllByRecursion (HasOneEach sources) rows → length (row_bytes rows) ≡ 16 * (length rows * sources)
rows_long sources [] wide = omega (arith, nat.zero-mul sources)
rows_long sources (row ∷ rows) wide = grind (arith, flat_map-append, spelled_so, length-append, bytes_count, rows_long sources rows wide.1)

-- the cells of rows have their bytes
pub cells_of_rows : (rows : List (List Cell)) → cells_bytes (row_cells rows) ≡ row_bytes rows
cells_of_rows rows = sym (spelled_so (row_cells rows)) ∙ rows_spelled rows

pub cells_in_rows : (sources : ℕ) (rows : List (List Cell)) → AllByRecursion (HasOneEach sources) rows → length (row_cells rows) ≡ length rows * sources
cells_in_rows sources rows wide = omega (arith, ap length (cells_of_rows rows), bytes_count (row_cells rows), rows_long sources rows wide)

module _ (bytes : List ℕ) (rows : List (List Cell)) (sources from to kept : ℕ) (order : from ≤ to) (there : to ≤ length rows) (wide : AllByRecursion (HasOneEach sources) rows) where
  pub put_begins : (index : ℕ) → index ≡ min (max kept from) to → HoldsRows bytes rows sources from to kept → ArePut bytes rows sources from to index
  put_begins index index_is held = record {
    low = omega (arith, index_is, order);
    high = omega (arith, index_is);
    before = held.before;
    as_many = held.as_many;
    wide = held.wide;
    bytes_are = held.bytes_are ∙ run_begins_so row_bytes sources rows_joined (rows_long sources) held.before rows from to order there held.as_many held.wide wide kept index index_is held.same;
  }

  -- what is put next is within the bytes
  pub put_within : (index count : ℕ) → index + count ≤ to → ArePut bytes rows sources from to index → 16 * ((index - from) * sources) + 16 * (count * sources) ≤ length bytes
  put_within index count few put =
      let front = take (index - from) (drop from rows) in
      let back = drop (index - from) put.before in
      let many : length front ≡ index - from = omega (arith, put.low, few, there, length-take (index - from) (drop from rows), length-drop from rows) in
      let left : length back ≡ to - from - (index - from) = omega (arith, put.as_many, length-drop (index - from) put.before) in
      let front_long = rows_long sources front (all_taken sources (index - from) (drop from rows) (all_dropped sources from rows wide)) in
      let back_long = rows_long sources back (all_dropped sources (index - from) put.before put.wide) in
      let enough : count * sources ≤ length back * sources = mul-le count sources (length back) sources (omega (arith, left, few, put.low)) (omega arith) in
      let all : length bytes ≡ length (row_bytes front) + length (row_bytes back) = ap length put.bytes_are ∙ length-append (row_bytes front) (row_bytes back) in
      omega (arith, all, front_long, back_long, enough, ap (λ k. k * sources) many)

  pub put_goes_on : (index count at size : ℕ) (cells new : List ℕ) → index + count ≤ to → at ≡ 16 * ((index - from) * sources) → size ≡ 16 * (count * sources) → cells ≡ row_bytes (take count (drop index rows))
      → new ≡ take at bytes ++ (cells ++ drop (at + size) bytes) → ArePut bytes rows sources from to index → ArePut new rows sources from to (index + count)
  put_goes_on index count at size cells new few at_is size_is cells_are new_is put = record {
    low = omega (arith, put.low);
    high = few;
    before = put.before;
    as_many = put.as_many;
    wide = put.wide;
    bytes_are =
        new_is ∙ ap (λ l. take at bytes ++ (l ++ drop (at + size) bytes)) cells_are
        ∙ run_goes_on row_bytes sources rows_joined (rows_long sources) put.before rows from to order there put.as_many put.wide wide index count at size bytes put.low few at_is size_is put.bytes_are;
  }

  pub put_ends : (index : ℕ) → to ≤ index → ArePut bytes rows sources from to index → bytes ≡ row_bytes (slice_range rows from to)
  put_ends index past put = run_ends row_bytes sources rows_joined (rows_long sources) put.before rows from to order there put.as_many put.wide wide index bytes (omega (arith, past, put.high)) put.bytes_are

-- the cells of a run of rows
pub many_cells : (rows : List (List Cell)) (sources index count : ℕ) (cells : List Cell) → cells ≡ row_cells (take count (drop index rows)) → index + count ≤ length rows → AllByRecursion (HasOneEach sources) rows → length cells ≡ count * sources
many_cells rows sources index count cells is within wide =
    let some = take count (drop index rows) in
    let many : length some ≡ count = omega (arith, within, length-take count (drop index rows), length-drop index rows) in
    ap length is ∙ cells_in_rows sources some (all_taken sources count (drop index rows) (all_dropped sources index rows wide)) ∙ ap (λ k. k * sources) many
