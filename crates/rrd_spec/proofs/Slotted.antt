-- Slots and places, by time and by number.
use Rattle.std.specs.Prelude.{◌≡◌, ◌≢◌, ◌+◌, ◌-◌, ◌*◌, ◌/◌, ◌%◌, ◌<◌, ◌≤◌, ◌⊎◌, ℕ, zero, suc, List, [], ◌∷◌, Some, pos, negsuc, ◌-ℤ◌, length, Bool, true, false, Option, unsigned_abs}
use Rattle.rrd_spec.proofs.Names.{common_steps, ◌∙◌, sym, ap, arith, inl, inr, get_or, ints, cases_lt, eq-eqb, lt-ltb, ne_eqb, get_or-set_other, get_or-set_same, find, enumerate_from, option_map_or, int_rem_euclid, int_div_euclid, Cell, time_of, Rra, Content, slot_of, stands_in, row_in, place_in, KeepsRow, PlaceHasSlot, PlacesDiffer, PutsRow, ShowsInPlace, SlotHasPlace, StandsInPlace, with_row_in, add-mul-mod_self_right, mod-add-div'}
use native.Mathlib.Nat as nat

-- ---- the number of a row since 1970

above : (m d size rows : ℕ) → 1 ≤ size → m ≡ d + rows → int_div_euclid (pos (m * size) -ℤ pos (rows * size)) (pos size) ≡ pos d
above m d size rows some is =
    let parts : m * size ≡ d * size + rows * size = ap (λ x. x * size) is ∙ nat.add-mul d rows size in
    let diff : pos (m * size) -ℤ pos (rows * size) ≡ pos (d * size) = omega (arith, ints, parts) in
    ap (λ t. int_div_euclid t (pos size)) diff ∙ ap (λ q. pos q) (nat.mul-div_cancel d some)

below : (m e size rows : ℕ) → 1 ≤ size → rows ≡ m + suc e → int_div_euclid (pos (m * size) -ℤ pos (rows * size)) (pos size) ≡ negsuc e
below m e size rows some is =
    let parts : rows * size ≡ m * size + suc e * size = ap (λ x. x * size) is ∙ nat.add-mul m (suc e) size in
    let last : suc e * size ≡ e * size + size = nat.suc-mul e size in
    let diff : pos (m * size) -ℤ pos (rows * size) ≡ negsuc (e * size + (size - 1)) = omega (arith, ints, parts, last, some) in
    let quotient : (e * size + (size - 1)) / size ≡ e = grind arith in
    ap (λ t. int_div_euclid t (pos size)) diff ∙ ap (λ q. negsuc q) quotient

-- the time is m rows after 1970 less all rows
number_from : (m size rows : ℕ) → 1 ≤ size → int_div_euclid (pos (m * size) -ℤ pos (rows * size)) (pos size) ≡ pos m -ℤ pos rows
number_from m size rows some =
    elim (cases_lt m rows) [
      | inl lt ↦ below m (rows - m - 1) size rows some (omega (arith, lt)) ∙ omega (arith, ints, lt)
      | inr le ↦ above m (m - rows) size rows some (omega (arith, le)) ∙ omega (arith, ints, le)
    ]

slot_above : (m d rows : ℕ) → 1 ≤ rows → m ≡ d + rows → unsigned_abs (int_rem_euclid (pos d) (pos rows)) ≡ m % rows
slot_above m d rows some is = sym (nat.add-mod_right d rows) ∙ ap (λ x. x % rows) (sym is)

slot_below : (m e rows : ℕ) → 1 ≤ rows → rows ≡ m + suc e → unsigned_abs (int_rem_euclid (negsuc e) (pos rows)) ≡ m % rows
slot_below m e rows some is = grind arith

slot_from : (m size rows : ℕ) → 1 ≤ size → 1 ≤ rows → slot_of size rows (pos (m * size) -ℤ pos (rows * size)) ≡ m % rows
slot_from m size rows some k =
    elim (cases_lt m rows) [
      | inl lt ↦
          let e = rows - m - 1 in
          let is : rows ≡ m + suc e = omega (arith, lt) in
          ap (λ q. unsigned_abs (int_rem_euclid q (pos rows))) (below m e size rows some is) ∙ slot_below m e rows k is
      | inr le ↦
          let d = m - rows in
          let is : m ≡ d + rows = omega (arith, le) in
          ap (λ q. unsigned_abs (int_rem_euclid q (pos rows))) (above m d size rows some is) ∙ slot_above m d rows k is
    ]

-- ---- the row of a place

time_is : (size rows last place : ℕ) → time_of size rows last place ≡ pos ((last / size + 1 + place) * size) -ℤ pos (rows * size)
time_is size rows last place = grind (arith, common_steps)

-- how many rows came after it
age_is : (size rows last place : ℕ) → 0 < size → place < rows → pos (last / size) -ℤ int_div_euclid (time_of size rows last place) (pos size) ≡ pos (rows - 1 - place)
age_is size rows last place some inside =
    let number : int_div_euclid (time_of size rows last place) (pos size) ≡ pos (last / size + 1 + place) -ℤ pos rows = grind (arith, pos, time_is, number_from) in
    ap (λ n. pos (last / size) -ℤ n) number ∙ omega (arith, ints, inside)

-- its slot, by its number
slot_is : (size rows last place : ℕ) → 0 < size → 0 < rows → slot_of size rows (time_of size rows last place) ≡ (last / size + 1 + place) % rows
slot_is size rows last place some r = ap (λ t. slot_of size rows t) (time_is size rows last place) ∙ slot_from (last / size + 1 + place) size rows some r

-- ---- the place in a slot

pub mod_once : (n rows : ℕ) → 0 < rows → n < rows + rows → ((n < rows) × (n % rows ≡ n)) ⊎ ((rows ≤ n) × (n % rows ≡ n - rows))
mod_once n rows r h = elim (cases_lt n rows) [
  | inl lt ↦ inl (lt, nat.mod-eq_of_lt lt)
  | inr le ↦
      let d = n - rows in
      let is : n ≡ d + rows = omega (arith, le) in
      inr (le, ap (λ x. x % rows) is ∙ (nat.add-mod_right d rows ∙ nat.mod-eq_of_lt (omega (arith, h, le))))
]

mod_sum : (q i rows : ℕ) → (q + i) % rows ≡ (q % rows + i) % rows
mod_sum q i rows = grind (arith, mod-add-div' q rows, add-mul-mod_self_right (q % rows + i) (q / rows) rows)

-- the slot of the row in it, and no row before it stands there
pub record IsPlace (q rows slot place : ℕ) : Type 0 where
  pub inside : place < rows
  pub here : (q + place) % rows ≡ slot
  pub first : (i : ℕ) → i < place → (q + i) % rows ≢ slot

turned : (r i rows slot : ℕ) → r < rows → i < rows → slot < rows → (r + i) % rows ≡ slot → ((r + i < rows) × (r + i ≡ slot)) ⊎ ((rows ≤ r + i) × (r + i ≡ slot + rows))
turned r i rows slot a b c h = grind (arith, mod_once)

placed : (r rows slot : ℕ) → r < rows → slot < rows → let place = (slot + rows - r) % rows in (place < rows) × ((r + place) % rows ≡ slot)
placed r rows slot a b = grind arith

-- different places have different slots
pub same_place : (q i j rows : ℕ) → i < rows → j < rows → (q + i) % rows ≡ (q + j) % rows → i ≡ j
same_place q i j rows a b h = grind arith

pub is_place : (q rows slot : ℕ) → slot < rows → IsPlace q rows slot ((slot + rows - q % rows) % rows)
is_place q rows slot b =
    let p = placed (q % rows) rows slot (omega arith) b in
    let place = (slot + rows - q % rows) % rows in
    let here : (q + place) % rows ≡ slot = mod_sum q place rows ∙ p.1 in
    grind (arith, common_steps, below, same_place)

-- the first item whose number gives the slot
find_first : {A : Type 0} (test : ℕ × A → Bool) (n k : ℕ) (rows : List A) (d : A) → k < length rows → ((i : ℕ) → i < k → (x : A) → test (n + i, x) ≡ false) → ((x : A) → test (n + k, x) ≡ true)
    → find test (enumerate_from n rows) ≡ Some (n + k, get_or rows k d)
find_first test n k [] d inside before fits = absurd (omega arith)
find_first test n zero (row ∷ rows) d inside before fits =
    let now : test (n, row) ≡ true = ap (λ m. test (m, row)) (omega arith) ∙ fits row in
    rw now (ap (λ m. Some (m, row)) (omega arith))
find_first test n (suc k) (row ∷ rows) d inside before fits =
    let now : test (n, row) ≡ false = ap (λ m. test (m, row)) (omega arith) ∙ before 0 (omega arith) row in
    grind (arith, find_first test (n + 1) k rows d (omega arith) (λ i below x. ap (λ m. test (m, x)) (omega arith) ∙ before (suc i) (omega arith) x) (λ x. ap (λ m. test (m, x)) (omega arith) ∙ fits x), below)

-- the row in a slot
pub stands_in_place : (size last : ℕ) (rows : List (List Cell)) (slot : ℕ) → StandsInPlace size last rows slot
stands_in_place size last rows slot some inside =
    let n = length rows in
    let p = is_place (last / size + 1) n slot inside in
    let k = place_in size last n slot in
    let found : find (stands_in size n last slot) (enumerate_from 0 rows) ≡ Some (0 + k, get_or rows k []) = grind (arith, find_first, below, ne_eqb, slot_is, eq-eqb) in
    ap (λ (o : Option (ℕ × List Cell)). option_map_or (λ found. found.1) o []) found

-- ---- slots and places, each by the other

pub slot_has_place : (size last rows slot : ℕ) → SlotHasPlace size last rows slot
slot_has_place size last rows slot some inside = grind (arith, is_place, slot_is)

pub place_has_slot : (size last rows place : ℕ) → PlaceHasSlot size last rows place
place_has_slot size last rows place some inside = grind (arith, slot_is, is_place, same_place)

pub places_differ : (size last rows slot other : ℕ) → PlacesDiffer size last rows slot other
places_differ size last rows slot other a b apart same = grind (arith, is_place)

-- ---- the row of a place, shown at its time

pub shows_in_place : (content : Content) (archive : Rra) (place : ℕ) → ShowsInPlace content archive place
shows_in_place content archive place some inside = grind (arith, common_steps, age_is, lt-ltb)

-- ---- one row put into its place

-- a row of the rows with another one in a slot's place
row_then : (size last : ℕ) (rows : List (List Cell)) (slot : ℕ) (row : List Cell) (other : ℕ) → 0 < size → other < length rows → row_in size last (with_row_in size last rows slot row) other ≡ get_or (with_row_in size last rows slot row) (place_in size last (length rows) other) []
row_then size last rows slot row other some inside = grind (arith, common_steps, stands_in_place)

pub puts_row : (size last : ℕ) (rows : List (List Cell)) (slot : ℕ) (row : List Cell) → PutsRow size last rows slot row
puts_row size last rows slot row some inside = cc (row_then size last rows slot row slot some inside, get_or-set_same rows (place_in size last (length rows) slot) row [] (is_place (last / size + 1) (length rows) slot inside).inside)

pub keeps_row : (size last : ℕ) (rows : List (List Cell)) (slot : ℕ) (row : List Cell) (other : ℕ) → KeepsRow size last rows slot row other
keeps_row size last rows slot row other some inside within apart =
    row_then size last rows slot row other some within
    ∙ (get_or-set_other rows (place_in size last (length rows) slot) (place_in size last (length rows) other) row [] (places_differ size last (length rows) other slot within inside apart)
    ∙ sym (stands_in_place size last rows other some within))
