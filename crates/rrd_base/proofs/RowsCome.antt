-- Whole rows of cells come at once.
use Rattle.std.specs.Prelude.{◌≡◌, ◌+◌, ◌*◌, ◌/◌, ◌%◌, ◌<◌, ◌≤◌, ℕ, zero, suc, List, [], ◌∷◌, ◌++◌, None, length, map, take, drop, min, ◌⊎◌}
use Rattle.rrd_base.proofs.Names.{◌∙◌, sym, ap, subst, arith, inl, inr, refl, get_or, append_assoc, append-nil, length-set, length-append, length-drop, take_at, drop_at, AllByRecursion, add-mul, take-add, cases_lt, length-map, length-take-le, take-append-drop, take_all, drop-drop, mul-le, Cell, IsBounded, width, with_rows, CellDue, Filed, head_of, Rra, All-drop, All-take, drop_here, PutsBlock, due, rows_in_all, unprepared, resolution, by_slot, cells_by_slot, place_in, IsRow, Cursor, filled_by, Coming, IsRebuilding, filed_in, MayCells, with_cells}
use Rattle.rrd_spec.specs.Files.Rebuilding.{with_cell}
use Rattle.rrd_base.specs.Rebuild.Cursors.{Passes}
use Rattle.rrd_base.proofs.CellComes.{All_set, AtCell, CellHere, GoesOn, IsPut, StaysIn, place_on, put_in, slots_apart, with_more}
use Rattle.rrd_base.proofs.Dues.{AllAsMany, archive_wide, cells_count, one_each, sources_count, total}
use Rattle.rrd_base.proofs.Rebuilt.{fold_sum}
use native.Mathlib.Nat as nat

-- ---- which cells may come

-- nothing but cells is due before entries
pub record OnlyCellsLack (f : Filed) : Type 0 where
  pub sources : f.header.sources ≤ length f.sources
  pub prepared : unprepared f.header.sources f.heads ≡ None
  pub heads : f.header.archives ≤ length f.heads

cell_due : (f : Filed) → OnlyCellsLack f → length f.cells < f.header.sources * rows_in_all f.heads → due f ≡ CellDue
unfolding due
cell_due f lacks more = grind arith

may_all : (f : Filed) (cells : List Cell) → OnlyCellsLack f → AllByRecursion IsBounded cells → length f.cells + length cells ≤ f.header.sources * rows_in_all f.heads → MayCells f cells
may_all f [] lacks all few = tt
may_all f (cell ∷ cells) lacks all few =
    let more : OnlyCellsLack (with_cell f cell) = record { sources = lacks.sources; prepared = lacks.prepared; heads = lacks.heads } in
    (record { is_due = cell_due f lacks (omega (arith, few)); bounded = all.0 }, may_all (with_cell f cell) cells more all.1 (omega (arith, few, length-append f.cells (cell ∷ []))))

lacks_in : (d : Coming) → IsRebuilding d → AtCell d → OnlyCellsLack (filed_in d)
lacks_in d is at = record {
  sources = omega (arith, sources_count d is, is.sources_first (omega (arith, at.there)));
  prepared = at.heads.prepared;
  heads = omega (arith, length-map d.archives head_of, at.heads.all);
}

first_fewer : (sources : ℕ) (a : Rra) (archives : List Rra) → sources * a.def.rows ≤ sources * rows_in_all (map head_of (a ∷ archives))
first_fewer sources a archives = grind (arith, fold_sum)

-- as many as the archive lacks
pub may_come : AllAsMany → (d : Coming) (a : Rra) (cells : List Cell) → IsRebuilding d → AtCell d → a ≡ get_or d.archives d.archive a → AllByRecursion IsBounded cells → d.filled + length cells ≤ d.sources_due * a.def.rows → MayCells (filed_in d) cells
may_come as_many d a cells is at e all few =
    let first = drop_here d.archives d.archive a at.there e in
    let rest = drop d.archive d.archives in
    let within : d.sources_due * a.def.rows ≤ d.sources_due * rows_in_all (map head_of rest) = subst (λ (xs : List Rra). d.sources_due * a.def.rows ≤ d.sources_due * rows_in_all (map head_of xs)) (sym first) (first_fewer d.sources_due a (drop (d.archive + 1) d.archives)) in
    may_all (filed_in d) cells (lacks_in d is at) all (omega (arith, cells_count as_many d is, total d, few, within))

-- ---- what they add

pub with_cells_is : (f : Filed) (cells : List Cell) → with_cells f cells ≡ with_more f cells
with_cells_is f [] = ap (λ (cs : List Cell). let g : Filed = record f { cells = cs } in g) (sym (append-nil f.cells))
with_cells_is f (cell ∷ cells) = with_cells_is (with_cell f cell) cells ∙ ap (λ (cs : List Cell). let g : Filed = record f { cells = cs } in g) (append_assoc f.cells (cell ∷ []) cells)

-- ---- rows in their slots

-- by the law of the cells in slots
abbrev pub AllBlocks : Type 0
AllBlocks = (resolution last sources : ℕ) (rows : List (List Cell)) (slot : ℕ) (row : List Cell) → PutsBlock resolution last sources rows slot row

length-rows : (n sources : ℕ) (rows : List (List Cell)) (i : ℕ) (cells : List Cell) → length (with_rows n sources rows i cells) ≡ length rows
length-rows zero sources rows i cells = refl
length-rows (suc n) sources rows i cells = length-set (with_rows n sources rows i cells) ((i + n) % length rows) (take sources (drop (n * sources) cells)) ∙ length-rows n sources rows i cells

one_more : (n sources : ℕ) → suc n * sources ≡ n * sources + sources
one_more n sources = nat.suc-mul n sources

part_wide : (n sources : ℕ) (cells : List Cell) → suc n * sources ≤ length cells → length (take sources (drop (n * sources) cells)) ≡ sources
part_wide n sources cells has = length-take-le sources (drop (n * sources) cells) (omega (arith, length-drop (n * sources) cells, one_more n sources))

rows_bounded : (n sources : ℕ) (rows : List (List Cell)) (i : ℕ) (cells : List Cell) → AllByRecursion (IsRow sources) rows → AllByRecursion IsBounded cells → n * sources ≤ length cells → AllByRecursion (IsRow sources) (with_rows n sources rows i cells)
rows_bounded zero sources rows i cells all bounded has = all
rows_bounded (suc n) sources rows i cells all bounded has =
    let row = take sources (drop (n * sources) cells) in
    let is : IsRow sources row = record { one_each = part_wide n sources cells has; each = All-take IsBounded sources (drop (n * sources) cells) (All-drop IsBounded (n * sources) cells bounded) } in
    All_set (IsRow sources) (with_rows n sources rows i cells) ((i + n) % length rows) row (rows_bounded n sources rows i cells all bounded (omega (arith, one_more n sources, has))) is

none_put : (xs : List Cell) (n : ℕ) → put_in xs n [] ≡ xs
none_put xs n = take-append-drop n xs

-- a row behind others
row_behind : (xs : List Cell) (k w : ℕ) (part row : List Cell) → k + length part + w ≤ length xs → length row ≡ w
    → take (k + length part) (put_in xs k part) ++ (row ++ drop (k + length part + w) (put_in xs k part)) ≡ put_in xs k (part ++ row)
row_behind xs k w part row fits e =
    let front = take k xs in
    let back = drop k xs in
    let rest = drop (length part) back in
    let m = k + length part in
    let long : length (front ++ part) ≡ m = omega (arith, length-append front part, length-take-le k xs (omega arith)) in
    let same : put_in xs k part ≡ (front ++ part) ++ rest = sym (append_assoc front part rest) in
    let later : drop w rest ≡ drop (length (part ++ row)) back = drop-drop w (length part) back ∙ ap (λ n. drop n back) (let sum : length part + w ≡ length (part ++ row) = omega (arith, length-append part row) in sum) in
    cc (same, take_at (front ++ part) rest m long, sym (drop-drop w m ((front ++ part) ++ rest)) ∙ ap (drop w) (drop_at (front ++ part) rest m long), append_assoc front part (row ++ drop w rest), append_assoc part row (drop w rest), later)

pub rows_in_slots : AllAsMany → AllBlocks → (size last sources : ℕ) (rows : List (List Cell)) (slot n place : ℕ) (cells : List Cell) → 0 < size → AllByRecursion (IsRow sources) rows → AllByRecursion IsBounded cells → slot + n ≤ length rows → n * sources ≤ length cells
    → place ≡ place_in size last (length rows) slot → by_slot size last (with_rows n sources rows place cells) ≡ put_in (by_slot size last rows) (slot * sources) (take (n * sources) cells)
rows_in_slots as_many blocks size last sources rows slot zero place cells some all bounded fits has is = grind (arith, put_in, none_put)
rows_in_slots as_many blocks size last sources rows slot (suc n) place cells some all bounded fits has is =
    let before = with_rows n sources rows place cells in
    let count = length-rows n sources rows place cells in
    let row = take sources (drop (n * sources) cells) in
    let part = take (n * sources) cells in
    let xs = by_slot size last rows in
    let k = slot * sources in
    let more = one_more n sources in
    let less : n * sources ≤ length cells = omega (arith, more, has) in
    let there : slot + n < length before = omega (arith, count, fits) in
    let all_before = rows_bounded n sources rows place cells all bounded less in
    let put = blocks size last sources before (slot + n) row some (one_each sources before all_before) there (part_wide n sources cells has) in
    let at : place_in size last (length before) (slot + n) ≡ (place + n) % length rows = grind (arith, place_on) in
    let was = rows_in_slots as_many blocks size last sources rows slot n place cells some all bounded (omega (arith, fits)) less is in
    let wide : length xs ≡ length rows * sources = as_many size last sources rows some (one_each sources rows all) in
    let long : length part ≡ n * sources = length-take-le (n * sources) cells less in
    let sum : (slot + n) * sources ≡ k + length part = add-mul slot n sources ∙ ap (λ m. k + m) (sym long) in
    let next : (slot + n + 1) * sources ≡ k + length part + sources = add-mul (slot + n) 1 sources ∙ (let one : (slot + n) * sources + 1 * sources ≡ k + length part + sources = omega (arith, sum) in one) in
    let top : (slot + n + 1) * sources ≤ length rows * sources = mul-le (slot + n + 1) sources (length rows) sources (omega (arith, fits)) (omega arith) in
    grind (arith, take-add, row_behind, part_wide)

-- ---- the rows of an archive

abbrev pub with_rows_at : Rra → ℕ → ℕ → ℕ → List Cell → Rra
with_rows_at a sources place n cells = record a { rows = with_rows n sources a.rows place cells }

pub are_put : AllAsMany → AllBlocks → (d : Coming) (a : Rra) (cursor : Cursor) (place n : ℕ) (cells : List Cell) → IsRebuilding d → CellHere d a cursor → a ≡ get_or d.archives d.archive a → d.filled ≡ filled_by d.sources_due cursor
    → cursor.source ≡ 0 → place ≡ place_in (resolution d.step a.def) d.last a.def.rows cursor.slot → cursor.slot + n ≤ a.def.rows → length cells ≡ n * d.sources_due → AllByRecursion IsBounded cells
    → IsPut d a (with_rows_at a d.sources_due place n cells) cells
are_put as_many blocks d a cursor place n cells is here e filled first place_is fits count bounded =
    let so_far = here.so_far in
    let size : 0 < resolution d.step a.def = nat.mul-pos is.header_is.some_step so_far.def_is.some_steps in
    let wide : length (cells_by_slot d.step d.last a) ≡ d.sources_due * a.def.rows = archive_wide as_many d.sources_due d.step d.last a is.header_is.some_step so_far in
    let at : d.filled ≡ cursor.slot * d.sources_due = omega (arith, filled, first) in
    let sum : (cursor.slot + n) * d.sources_due ≡ cursor.slot * d.sources_due + n * d.sources_due = add-mul cursor.slot n d.sources_due in
    let top : (cursor.slot + n) * d.sources_due ≤ a.def.rows * d.sources_due = mul-le (cursor.slot + n) d.sources_due a.def.rows d.sources_due fits (omega arith) in
    let turned : a.def.rows * d.sources_due ≡ d.sources_due * a.def.rows = nat.mul_comm a.def.rows d.sources_due in
    let same_rows : place ≡ place_in (resolution d.step a.def) d.last (length a.rows) cursor.slot = place_is ∙ ap (λ m. place_in (resolution d.step a.def) d.last m cursor.slot) (sym so_far.rows_are) in
    let whole : take (n * d.sources_due) cells ≡ cells = take_all (n * d.sources_due) cells (omega (arith, count)) in
    grind (arith, length-rows, rows_bounded, rows_in_slots, put_in)

-- ---- the cursor

pub passes_on : (sources size last rows place count : ℕ) (old new : Cursor) → Passes rows place count old new → place ≡ place_in size last rows old.slot → old.source ≡ 0 → 0 < sources → old.slot < rows → old.slot + count ≤ rows
    → StaysIn sources size last rows (count * sources) old new ⊎ GoesOn sources rows (count * sources) old new
passes_on sources size last rows place count old new goes is first some slot fits =
    let sum : (old.slot + count) * sources ≡ old.slot * sources + count * sources = add-mul old.slot count sources in
    let turned : rows * sources ≡ sources * rows = nat.mul_comm rows sources in
    elim (cases_lt (old.slot + count) rows) [
      | inl more ↦
          let to : Cursor = record old { slot = old.slot + count; place = (place + count) % rows; source = 0 } in
          let here : StaysIn sources size last rows (count * sources) old to = grind (arith, slots_apart, place_on) in
          inl (subst (StaysIn sources size last rows (count * sources) old) (sym (goes.within more)) here)
      | inr past ↦ grind arith
    ]

-- ---- what code needs to know

-- the item of a place is one
pub one_item : {A : Type 0} (xs : List A) (i : ℕ) (x y : A) → i < length xs → x ≡ get_or xs i x → y ≡ get_or xs i y → x ≡ y
one_item [] i x y h a b = absurd (omega arith)
one_item (z ∷ xs) zero x y h a b = a ∙ sym b
one_item (z ∷ xs) (suc i) x y h a b = one_item xs i x y (omega arith) a b

pub width_is : (sources : ℕ) (rows : List (List Cell)) → AllByRecursion (IsRow sources) rows → 0 < length rows → width rows ≡ sources
width_is sources rows all some = grind arith

-- whole rows are no more than all cells
pub whole_few : (count sources total left : ℕ) → 0 < sources → count ≡ min (total / sources) left → count * sources ≤ total
whole_few count sources total left some is = grind arith

-- such rows end within the archive
pub within : (sources slot source count rows cells : ℕ) → source ≡ 0 → cells ≡ count * sources → slot + count ≤ rows → slot * sources + source + cells ≤ sources * rows
within sources slot source count rows cells none long fits =
    let sum : (slot + count) * sources ≡ slot * sources + count * sources = add-mul slot count sources in
    let top : (slot + count) * sources ≤ rows * sources = mul-le (slot + count) sources rows sources fits (omega arith) in
    grind arith
