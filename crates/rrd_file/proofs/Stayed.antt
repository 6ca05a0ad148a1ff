-- The rows of an archive by slot, at an earlier time and now.
use Rattle.std.specs.Prelude.{◌≡◌, ◌+◌, ◌-◌, ◌%◌, ◌/◌, ◌<◌, ◌≤◌, ◌++◌, ℕ, zero, suc, List, [], ◌∷◌, Some, length, take, drop, map, slice_get}
use Rattle.rrd_file.proofs.Names.{◌∙◌, sym, ap, refl, arith, get_or, length-take, range_with_len, div-mul-le_self, get_or-drop, get_or-take, length-map, get_or-map-range_with_len, length-range_with_len, le-div, Cell, place_in, row_in, Rra, StandsInPlace, StaysInSlot, MoveOn, MovesOn, dropped, resolution}
use Rattle.rrd_file.proofs.Turned.{turn}

-- the rows of an archive in the order of their slots
abbrev pub in_slots : ℕ → ℕ → List (List Cell) → List (List Cell)
in_slots size last rows = map (row_in size last rows) (range_with_len 0 (length rows))

pub many_slots : (size last : ℕ) (rows : List (List Cell)) → length (in_slots size last rows) ≡ length rows
many_slots size last rows = length-map (range_with_len 0 (length rows)) (row_in size last rows) ∙ length-range_with_len 0 (length rows)

slot_at : (size last : ℕ) (rows : List (List Cell)) (slot : ℕ) → slot < length rows → get_or (in_slots size last rows) slot [] ≡ row_in size last rows slot
slot_at size last rows slot inside = get_or-map-range_with_len (row_in size last rows) 0 (length rows) slot slot [] inside (omega arith)

-- a row with an index below `kept` is in the slot in which it was
module _ (stands : (resolution last : ℕ) (rows : List (List Cell)) (slot : ℕ) → StandsInPlace resolution last rows slot)
    (stays : (resolution from to : ℕ) (saved rows : List (List Cell)) (slot : ℕ) → StaysInSlot resolution from to saved rows slot)
    (step from to size kept : ℕ) (old new : Rra) (moves : MovesOn step from to old new) (some : 0 < size) (size_is : size ≡ resolution step old.def) (later : from < to)
    (kept_is : kept ≡ length new.rows - (to / size - from / size)) where
  abbrev n : ℕ
  n = length new.rows

  abbrev ended : ℕ
  ended = to / size - from / size

  few_dropped : 0 < kept → dropped step from to old ≡ ended
  few_dropped k =
      let between : to / resolution step old.def - from / resolution step old.def ≡ ended = ap (λ r. to / r - from / r) (sym size_is) in
      omega (arith, between, k, kept_is, moves.as_many)

  stayed : (slot : ℕ) → slot < n → place_in size to n slot < kept → get_or new.rows (place_in size to n slot) [] ≡ get_or (in_slots size from old.rows) slot []
  stayed slot inside below =
      let k = dropped step from to old in
      let saved = take k old.rows in
      let few : k ≡ ended = few_dropped (omega (arith, below)) in
      let many : length saved ≡ k = omega (arith, length-take k old.rows) in
      let order : from / size ≤ to / size = le-div (from / size) to size some (omega (arith, later, div-mul-le_self from size)) in
      let count : to / size ≡ from / size + length saved = omega (arith, few, many, order) in
      let one : row_in size to new.rows slot ≡ row_in size from (saved ++ take (n - length saved) new.rows) slot =
      stays size from to saved new.rows slot some count inside (omega (arith, below, kept_is, few, many)) in
      let was : saved ++ take (n - length saved) new.rows ≡ old.rows = ap (λ m. saved ++ take (n - m) new.rows) many ∙ sym moves.rows_are in
      sym (stands size to new.rows slot some inside)
      ∙ one ∙ ap (λ rows. row_in size from rows slot) was ∙ sym (slot_at size from old.rows slot (omega (arith, inside, moves.as_many)))

  pub stayed_newer : (first i : ℕ) → first ≡ place_in size to n 0 → i < n - first → first + i < kept → get_or (take (n - first) (in_slots size from old.rows)) i [] ≡ get_or new.rows (first + i) []
  stayed_newer first i first_is inside below =
      let left = (to / size + 1) % n in
      let less : left < n = omega (arith, inside) in
      let t = turn left n i less (omega (arith, inside)) in
      let place : place_in size to n i ≡ first + i = t.up (omega (arith, inside, first_is)) ∙ ap (λ f. f + i) (sym first_is) in
      get_or-take (n - first) (in_slots size from old.rows) i [] inside
      ∙ sym (stayed i (omega (arith, inside)) (omega (arith, place, below))) ∙ ap (λ p. get_or new.rows p []) place

  pub stayed_older : (first i : ℕ) → first ≡ place_in size to n 0 → first ≤ n → i < first → i < kept → get_or (drop (n - first) (in_slots size from old.rows)) i [] ≡ get_or new.rows i []
  stayed_older first i first_is few inside below =
      let slot = n - first + i in
      let left = (to / size + 1) % n in
      let less : left < n = omega (arith, few, inside) in
      let there : slot < n = omega (arith, few, inside) in
      let t = turn left n slot less there in
      let place : place_in size to n slot ≡ i = t.round (omega (arith, first_is)) ∙ omega (arith, first_is) in
      get_or-drop (n - first) (in_slots size from old.rows) i []
      ∙ sym (stayed slot there (omega (arith, place, below))) ∙ ap (λ p. get_or new.rows p []) place

-- ---- archives that moved on, by number

pub record HasMoved (step from to : ℕ) (olds : List Rra) (i : ℕ) (new : Rra) : Type 0 where
  pub old : Rra
  pub there : slice_get olds i ≡ Some old
  pub moved : MovesOn step from to old new

pub moved_at : (step from to : ℕ) (olds news : List Rra) (i : ℕ) (new : Rra) → MoveOn step from to olds news → slice_get news i ≡ Some new → HasMoved step from to olds i new
moved_at step from to [] [] i new all there = absurd cc
moved_at step from to (old ∷ olds) (x ∷ news) zero new all there = grind arith
moved_at step from to (old ∷ olds) (x ∷ news) (suc i) new all there = grind (arith, moved_at step from to olds news i new all.1 there)
moved_at step from to y x i new all there = absurd all

pub as_many_archives : (step from to : ℕ) (olds news : List Rra) → MoveOn step from to olds news → length news ≡ length olds
as_many_archives step from to [] [] all = refl
as_many_archives step from to (old ∷ olds) (x ∷ news) all = ap suc (as_many_archives step from to olds news all.1)
as_many_archives step from to y x all = absurd all
