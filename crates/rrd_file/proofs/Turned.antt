-- An archive's rows in the order of its slots: those from the place of the first slot on, and then those before it.
use Rattle.std.specs.Prelude.{◌≡◌, ◌+◌, ◌-◌, ◌%◌, ◌/◌, ◌*◌, ◌<◌, ◌≤◌, ◌++◌, ℕ, zero, suc, List, [], Some, length, take, drop, map, min, replicate, slice_get, slice_range}
use Rattle.rrd_file.proofs.Names.{◌∙◌, sym, ap, arith, inl, inr, get_or, length-append, length-drop, flat_map, range_with_len, drop-drop, take-add, cases_lt, flat_map-append, drop-replicate, drop-take, ext_get_or, get_or-append_right, get_or-drop, get_or-take, get_or_append_left, length-map, length-take, map-append, replicate-append-replicate, take-replicate, take_all, take_rest, flat_map-map, get_or-map-range_with_len, length-range_with_len, Cell, Unknown, StandsInPlace, RraDef, Rra, Content, resolution, by_slot, cells_by_slot, row_in, place_in, IsValid, row_pieces, spelled, OfCell, spell}
use Rattle.std.proofs.Math.Seq.{take-take}
use Rattle.rrd_file.proofs.CellsFiled.{IsDefOf, cells_spelled, rows_are, same_def, small_def, some_size}
use Rattle.rrd_file.proofs.CellRuns.{cells_bytes, spelled_so}
use Rattle.rrd_file.proofs.Gathering.{flat_flat}
use native.Mathlib.Nat as nat

-- ---- the place of a slot, from that of the first

-- from the first place up to the newest, and on from the oldest
pub record IsTurn (rows first slot place : ℕ) : Type 0 where
  pub inside : first < rows
  pub up : slot < rows - first → place ≡ first + slot
  pub round : rows - first ≤ slot → place ≡ slot - (rows - first)

pub turn : (left rows slot : ℕ) → left < rows → slot < rows → IsTurn rows ((0 + rows - left) % rows) slot ((slot + rows - left) % rows)
turn left rows slot l s = grind arith

-- ---- rows, turned

turned_at : (rows : List (List Cell)) (first slot place : ℕ) → slot < length rows → IsTurn (length rows) first slot place → get_or rows place [] ≡ get_or (drop first rows ++ take first rows) slot []
turned_at rows first slot place s is =
    let rest : length (drop first rows) ≡ length rows - first = length-drop first rows in
    elim (cases_lt slot (length rows - first)) [
      | inl low ↦
          ap (λ k. get_or rows k []) (is.up low) ∙ sym (get_or-drop first rows slot [])
          ∙ sym (get_or_append_left (drop first rows) (take first rows) [] slot (omega (arith, rest, low)))
      | inr high ↦
          ap (λ k. get_or rows k []) (is.round high) ∙ sym (get_or-take first rows (slot - (length rows - first)) [] (omega (arith, is.inside, s, high)))
          ∙ sym (get_or-append_right (drop first rows) (take first rows) (length rows - first) slot [] rest high)
    ]

-- the rows slot by slot
pub turned : ((resolution last : ℕ) (rows : List (List Cell)) (slot : ℕ) → StandsInPlace resolution last rows slot) → (size last : ℕ) (rows : List (List Cell)) → 0 < size → 0 < length rows
    → let first = place_in size last (length rows) 0 in map (row_in size last rows) (range_with_len 0 (length rows)) ≡ drop first rows ++ take first rows
turned stands size last rows some_size some_rows =
    let n = length rows in
    let left = (last / size + 1) % n in
    let less : left < n = omega (arith, some_rows) in
    let first = place_in size last n 0 in
    let f = row_in size last rows in
    let inside : first < n = (turn left n 0 less some_rows).inside in
    let all : length (map f (range_with_len 0 n)) ≡ n = length-map (range_with_len 0 n) f ∙ length-range_with_len 0 n in
    let both : n ≡ length (drop first rows ++ take first rows) = omega (arith, inside, length-append (drop first rows) (take first rows), length-drop first rows, length-take first rows) in
    ext_get_or [] (map f (range_with_len 0 n)) (drop first rows ++ take first rows) (all ∙ both) (λ slot h.
    let there : slot < n = omega (arith, h, all) in
    get_or-map-range_with_len f 0 n slot slot [] there (omega arith) ∙ stands size last rows slot some_size there ∙ turned_at rows first slot (place_in size last n slot) there (turn left n slot less there))

-- ---- their bytes

pub rows_joined : (xs ys : List (List Cell)) → spelled (row_pieces (xs ++ ys)) ≡ spelled (row_pieces xs) ++ spelled (row_pieces ys)
rows_joined xs ys = cc (flat_map-append (λ (row : List Cell). map OfCell row) xs ys, flat_map-append spell (row_pieces xs) (row_pieces ys))

pub rows_spelled : (rows : List (List Cell)) → spelled (map OfCell (flat_map (λ (row : List Cell). row) rows)) ≡ spelled (row_pieces rows)
rows_spelled rows = cells_spelled (λ (row : List Cell). row) rows ∙ sym (flat_flat spell (λ (row : List Cell). map OfCell row) rows)

-- an archive's cells, slot by slot, in two runs of rows
pub slots_spelled : ((resolution last : ℕ) (rows : List (List Cell)) (slot : ℕ) → StandsInPlace resolution last rows slot) → (size last : ℕ) (rows : List (List Cell)) → 0 < size → 0 < length rows
    → let first = place_in size last (length rows) 0 in spelled (map OfCell (by_slot size last rows)) ≡ spelled (row_pieces (slice_range rows first (length rows))) ++ spelled (row_pieces (slice_range rows 0 first))
slots_spelled stands size last rows some_size some_rows =
    let n = length rows in
    let first = place_in size last n 0 in
    let f = row_in size last rows in
    let flat : flat_map f (range_with_len 0 n) ≡ flat_map (λ (row : List Cell). row) (drop first rows ++ take first rows) =
    sym (flat_map-map (λ (row : List Cell). row) f (range_with_len 0 n)) ∙ ap (flat_map (λ (row : List Cell). row)) (turned stands size last rows some_size some_rows) in
    grind (arith, take_rest, rows_spelled, rows_joined)

-- the same of the archive of a number
pub archive_spelled : ((resolution last : ℕ) (rows : List (List Cell)) (slot : ℕ) → StandsInPlace resolution last rows slot) → (d : Content) (n : ℕ) (def : RraDef) (size last first : ℕ) (a : Rra)
    → IsValid d → IsDefOf d n def → slice_get d.archives n ≡ Some a → size ≡ resolution d.step def → last ≡ d.last → first ≡ place_in size last def.rows 0
    → spelled (map OfCell (cells_by_slot d.step d.last a)) ≡ spelled (row_pieces (slice_range a.rows first def.rows)) ++ spelled (row_pieces (slice_range a.rows 0 first))
archive_spelled stands d n def size last first a valid is e size_is last_is first_is = grind (arith, rows_are d n def a valid is e, same_def, small_def, slots_spelled, some_size)

-- ---- rows that were never written

abbrev pub unknown : ℕ → List ℕ
unknown n = spelled (map OfCell (replicate n Unknown))

pub unknown_more : (n m : ℕ) → unknown n ++ unknown m ≡ unknown (n + m)
unknown_more n m = cc (flat_map-append spell (map OfCell (replicate n Unknown)) (map OfCell (replicate m Unknown)), sym (map-append OfCell (replicate n Unknown) (replicate m Unknown)) ∙ ap (map OfCell) (replicate-append-replicate n m Unknown))

-- their cells
unknown_rows : (rows sources : ℕ) → spelled (row_pieces (replicate rows (replicate sources Unknown))) ≡ unknown (rows * sources)
unknown_rows zero sources = ap unknown (sym (nat.zero-mul sources))
unknown_rows (suc rows) sources = grind (arith, flat_map-append, unknown_rows rows sources, unknown_more)

-- some of the oldest rows are unknown: so are those of them that a run of rows begins with
run_begins : (rows : List (List Cell)) (unwritten from run : ℕ) (row : List Cell) → take unwritten rows ≡ replicate unwritten row → from + run ≤ unwritten → take run (drop from rows) ≡ replicate run row
run_begins rows unwritten from run row is within =
    let left = unwritten - from in
    let here : take left (drop from rows) ≡ replicate left row = grind (arith, drop-take from left rows, drop-replicate from unwritten row) in
    sym (take-take run left (drop from rows) (omega (arith, within))) ∙ ap (take run) here ∙ take-replicate run left row (omega (arith, within))

-- the bytes of a run, unknown rows first
pub run_spelled : (rows : List (List Cell)) (unwritten from to sources : ℕ) → take unwritten rows ≡ replicate unwritten (replicate sources Unknown)
    → let run = min unwritten to - from in spelled (row_pieces (slice_range rows from to)) ≡ unknown (run * sources) ++ spelled (row_pieces (slice_range rows (from + run) to))
run_spelled rows unwritten from to sources is =
    let row = replicate sources Unknown in
    let run = min unwritten to - from in
    let more = to - (from + run) in
    let whole : to - from ≡ run + more = omega arith in
    let parts : slice_range rows from to ≡ take run (drop from rows) ++ take more (drop (from + run) rows) = grind (arith, take-add, drop-drop) in
    let begins : take run (drop from rows) ≡ replicate run row = grind (arith, run_begins) in
    ap (λ l. spelled (row_pieces l)) parts ∙ rows_joined (take run (drop from rows)) (take more (drop (from + run) rows))
    ∙ (λ i. spelled (row_pieces (begins i)) ++ spelled (row_pieces (slice_range rows (from + run) to))) ∙ ap (λ l. l ++ spelled (row_pieces (slice_range rows (from + run) to))) (unknown_rows run sources)

-- ---- a run of rows, one after another

pub rows_on : (rows : List (List Cell)) (from place n : ℕ) → from ≤ place → spelled (row_pieces (take (place - from) (drop from rows))) ++ spelled (row_pieces (take n (drop place rows))) ≡ spelled (row_pieces (take (place + n - from) (drop from rows)))
rows_on rows from place n after =
    let m = place - from in
    grind (arith, take-add m n (drop from rows), drop-drop m from rows, rows_joined (take m (drop from rows)) (take n (drop place rows)))

pub all_rows : (rows : List (List Cell)) (count : ℕ) → count ≡ length rows → spelled (row_pieces (slice_range rows 0 count)) ≡ spelled (row_pieces rows)
all_rows rows count is = ap (λ l. spelled (row_pieces l)) (take_all (count - 0) rows (omega (arith, is)))

-- so many unknown cells more
pub unknown_on : (done n : ℕ) → unknown done ++ cells_bytes (replicate n Unknown) ≡ unknown (done + n)
unknown_on done n = ap (λ l. unknown done ++ l) (sym (spelled_so (replicate n Unknown))) ∙ unknown_more done n
