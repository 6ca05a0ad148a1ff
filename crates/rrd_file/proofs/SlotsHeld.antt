-- The cells of an archive at an earlier time, cut where the oldest row is now.
use Rattle.std.specs.Prelude.{◌≡◌, ◌+◌, ◌-◌, ◌%◌, ◌/◌, ◌*◌, ◌<◌, ◌≤◌, ℕ, List, [], Some, length, take, drop, map, slice_get}
use Rattle.rrd_file.proofs.Names.{◌∙◌, sym, ap, subst, arith, get_or, length-drop, length-take, AllByRecursion, range_with_len, flat_map-map, Cell, place_in, by_slot, cells_by_slot, row_in, Rra, Content, HasOneEach, StandsInPlace, StaysInSlot, resolution, IsValid, HoldsRows, HoldsSlots, row_bytes, spelled, OfCell}
use Rattle.rrd_file.proofs.CellsFiled.{some_size}
use Rattle.rrd_file.proofs.Overwritten.{all_dropped, cut_at, rows_long}
use Rattle.rrd_file.proofs.Stayed.{in_slots, many_slots, stayed_newer, stayed_older}
use Rattle.rrd_file.proofs.Told.{archive_at}
use Rattle.rrd_file.proofs.Turned.{rows_joined, rows_spelled, turn, turned}
use Rattle.rrd_spec.proofs.RowsStay.{all_taken, all_joined}

-- the bytes of an archive's cells are those of its rows by slot
slots_are_rows : (size last : ℕ) (rows : List (List Cell)) → spelled (map OfCell (by_slot size last rows)) ≡ row_bytes (in_slots size last rows)
slots_are_rows size last rows =
    cc (flat_map-map (λ (row : List Cell). row) (row_in size last rows) (range_with_len 0 (length rows)), rows_spelled (in_slots size last rows))

-- the same by other names
pub rows_held : (bytes part : List ℕ) (rows known : List (List Cell)) (sources count from to end kept : ℕ) → bytes ≡ part → rows ≡ known → sources ≡ count → to ≡ end → HoldsRows part known count from end kept → HoldsRows bytes rows sources from to kept
rows_held bytes part rows known sources count from to end kept p q r s held = rw (p, q, r, s) held

pub record AreHeld (cells : List ℕ) (mid : ℕ) (rows : List (List Cell)) (sources first kept : ℕ) : Type 0 where
  pub within : mid ≤ length cells
  pub newer : HoldsRows (take mid cells) rows sources first (length rows) kept
  pub older : HoldsRows (drop mid cells) rows sources 0 first kept

module _ (stands : (resolution last : ℕ) (rows : List (List Cell)) (slot : ℕ) → StandsInPlace resolution last rows slot) where
  wide_slots : (size last sources : ℕ) (rows : List (List Cell)) → 0 < size → 0 < length rows → AllByRecursion (HasOneEach sources) rows → AllByRecursion (HasOneEach sources) (in_slots size last rows)
  wide_slots size last sources rows some_size some_rows wide =
      let first = place_in size last (length rows) 0 in
      subst (AllByRecursion (HasOneEach sources)) (sym (turned stands size last rows some_size some_rows))
      (all_joined sources (drop first rows) (take first rows) (all_dropped sources first rows wide) (all_taken sources first rows wide))

  -- how many bytes an archive's cells have
  pub slots_long : (d : Content) (n : ℕ) (a : Rra) → IsValid d → slice_get d.archives n ≡ Some a → AllByRecursion (HasOneEach (length d.sources)) a.rows → length (spelled (map OfCell (cells_by_slot d.step d.last a))) ≡ 16 * (length a.rows * length d.sources)
  slots_long d n a valid there wide =
      let size = resolution d.step a.def in
      let archive = archive_at d n a valid there in
      let some_rows : 0 < length a.rows = omega (arith, archive.rows_are, archive.some_rows) in
      ap length (slots_are_rows size d.last a.rows)
      ∙ rows_long (length d.sources) (in_slots size d.last a.rows) (wide_slots size d.last (length d.sources) a.rows (some_size d n a valid there) some_rows wide)
      ∙ ap (λ k. 16 * (k * length d.sources)) (many_slots size d.last a.rows)

  pub are_held : ((resolution from to : ℕ) (saved rows : List (List Cell)) (slot : ℕ) → StaysInSlot resolution from to saved rows slot)
      → (cells : List ℕ) (now : Content) (last : ℕ) (a : Rra) (size first kept mid : ℕ) → HoldsSlots cells now last a → 0 < size → size ≡ resolution now.step a.def → 0 < length a.rows
      → first ≡ place_in size now.last (length a.rows) 0 → kept ≡ length a.rows - (now.last / size - last / size) → mid ≡ 16 * ((length a.rows - first) * length now.sources)
      → AreHeld cells mid a.rows (length now.sources) first kept
  are_held stays cells now last a size first kept mid h some_size size_is some_rows first_is kept_is mid_is =
      let old = h.before in
      let sources = length now.sources in
      let n = length a.rows in
      let many_old : length old.rows ≡ n = sym h.moved.as_many in
      let old_size : size ≡ resolution now.step old.def = size_is ∙ ap (λ d. resolution now.step d) h.moved.def_is in
      let rows = in_slots size last old.rows in
      let many : length rows ≡ n = many_slots size last old.rows ∙ many_old in
      let wide = wide_slots size last sources old.rows some_size (omega (arith, many_old, some_rows)) h.wide in
      let bytes : cells ≡ row_bytes rows = h.bytes_are ∙ ap (λ r. spelled (map OfCell (by_slot r last old.rows))) (sym old_size) ∙ slots_are_rows size last old.rows in
      let inside : first < n = omega (arith, first_is, (turn ((now.last / size + 1) % n) n 0 (omega (arith, some_rows)) some_rows).inside) in
      let m = n - first in
      let cut = cut_at row_bytes sources rows_joined (rows_long sources) cells mid m rows bytes (omega (arith, many)) wide mid_is in
      record {
        within = cut.within;
        newer = record {
          before = take m rows;
          bytes_are = cut.newer;
          as_many = omega (arith, many, length-take m rows);
          wide = all_taken sources m rows wide;
          same = λ i few below. stayed_newer stands stays now.step last now.last size kept old a h.moved some_size old_size h.earlier kept_is first i first_is few below;
        };
        older = record {
          before = drop m rows;
          bytes_are = cut.older;
          as_many = omega (arith, many, inside, length-drop m rows);
          wide = all_dropped sources m rows wide;
          same = λ i few below. stayed_older stands stays now.step last now.last size kept old a h.moved some_size old_size h.earlier kept_is first i first_is (omega (arith, inside)) (omega (arith, few)) (omega (arith, below)) ∙ ap (λ k. get_or a.rows k []) {x = i} {y = 0 + i} (omega arith);
        };
      }
