-- The rows that an update leaves in their slots.
use Rattle.std.specs.Prelude.{◌≡◌, ◌+◌, ◌-◌, ◌/◌, ◌%◌, ◌<◌, ◌++◌, ℕ, zero, suc, List, [], ◌∷◌, length, take}
use Rattle.rrd_spec.proofs.Names.{◌∙◌, sym, ap, arith, length-append, length-take, get_or, AllByRecursion, get_or-append-add, get_or-take, Cell, place_in, CellStaysInSlot, HasOneEach, StaysInSlot}
use Rattle.rrd_spec.proofs.SlotCells.{cell_stands_in_slot}
use Rattle.rrd_spec.proofs.Slotted.{is_place, same_place, stands_in_place}

-- the rows before an update that saved these
abbrev before : List (List Cell) → List (List Cell) → List (List Cell)
before saved rows = saved ++ take (length rows - length saved) rows

module _ (size from to : ℕ) (saved rows : List (List Cell)) (slot : ℕ) (count : to / size ≡ from / size + length saved)
    (inside : slot < length rows) (stays : place_in size to (length rows) slot + length saved < length rows) where
  abbrev place : ℕ
  place = place_in size to (length rows) slot

  before_len : length (before saved rows) ≡ length rows
  before_len = omega (arith, length-append saved (take (length rows - length saved) rows), length-take (length rows - length saved) rows)

  -- it was as many places later
  place_before : place_in size from (length (before saved rows)) slot ≡ length saved + place
  place_before =
      let n = length rows in
      let p = is_place (to / size + 1) n slot inside in
      let q = is_place (from / size + 1) n slot inside in
      let later : (from / size + 1 + (length saved + place)) % n ≡ slot = ap (λ x. x % n) (omega (arith, count)) ∙ p.here in
      let same : place_in size from n slot ≡ length saved + place =
      same_place (from / size + 1) (place_in size from n slot) (length saved + place) n q.inside (omega (arith, stays)) (q.here ∙ sym later) in
      ap (λ m. place_in size from m slot) before_len ∙ same

  same_row : get_or (before saved rows) (place_in size from (length (before saved rows)) slot) [] ≡ get_or rows place []
  same_row =
      ap (λ i. get_or (before saved rows) i []) place_before
      ∙ (get_or-append-add saved (take (length rows - length saved) rows) place []
      ∙ get_or-take (length rows - length saved) rows place [] (omega (arith, stays)))

pub stays_in_slot : (size from to : ℕ) (saved rows : List (List Cell)) (slot : ℕ) → StaysInSlot size from to saved rows slot
stays_in_slot size from to saved rows slot some count inside stays =
    let len = before_len size from to saved rows slot count inside stays in
    cc (stands_in_place size to rows slot some inside, stands_in_place size from (before saved rows) slot some (omega (arith, len)) ∙ same_row size from to saved rows slot count inside stays)

-- ---- cells

pub all_taken : (sources n : ℕ) (rows : List (List Cell)) → AllByRecursion (HasOneEach sources) rows → AllByRecursion (HasOneEach sources) (take n rows)
all_taken sources zero rows all = tt
all_taken sources (suc n) [] all = tt
all_taken sources (suc n) (row ∷ rows) all = (all.0, all_taken sources n rows all.1)

pub all_joined : (sources : ℕ) (a b : List (List Cell)) → AllByRecursion (HasOneEach sources) a → AllByRecursion (HasOneEach sources) b → AllByRecursion (HasOneEach sources) (a ++ b)
all_joined sources [] b p q = q
all_joined sources (row ∷ a) b p q = (p.0, all_joined sources a b p.1 q)

pub cell_stays_in_slot : (size from to sources : ℕ) (saved rows : List (List Cell)) (slot source : ℕ) (or : Cell) → CellStaysInSlot size from to sources saved rows slot source or
cell_stays_in_slot size from to sources saved rows slot source or some count inside few all_saved all_rows stays =
    let len = before_len size from to saved rows slot count inside stays in
    let all = all_joined sources saved (take (length rows - length saved) rows) all_saved (all_taken sources (length rows - length saved) rows all_rows) in
    cell_stands_in_slot size to sources rows slot source or some all_rows inside few
    ∙ sym (cell_stands_in_slot size from sources (before saved rows) slot source or some all (omega (arith, len)) few
    ∙ ap (λ row. get_or row source or) (same_row size from to saved rows slot count inside stays))
