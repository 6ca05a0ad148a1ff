-- Cells come, one or many at once: they go into their places, and the cursor goes on.
use Rattle.std.specs.Prelude.{◌≡◌, ◌+◌, ◌-◌, ◌*◌, ◌/◌, ◌%◌, ◌<◌, ◌≤◌, ℕ, zero, suc, List, [], ◌∷◌, ◌++◌, None, Option, length, map, take, drop, sum, ◌⊎◌}
use Rattle.rrd_base.proofs.Names.{◌∙◌, sym, ap, subst, arith, inl, inr, refl, get_or, set, append_assoc, append-nil, length-set, length-append, length-drop, take_at, add-one, AllByRecursion, flat_map, cases_lt, length-take-le, take-append-le, add-mul-mod_self_right, mod-add-div', Cell, IsBounded, Due, SourceDue, CellDue, RraDef, rows_of_archives, Filed, Head, head_of, Rra, All-at, All-drop, drop_here, PutsCell, SlotHasPlace, due, prep_or, resolution, cells_by_slot, place_in, IsRow, Cursor, Advances, AreFewer, KnowsPlace, KnowsPlaceIn, filled_by, ArePrepared, Coming, HeadsCame, IsArchiveSoFar, IsCursor, IsRebuilding, filed_in}
use Rattle.rrd_base.proofs.Comes.{knows_nothing, rows_same}
use Rattle.rrd_base.proofs.Dues.{AllAsMany, archive_wide, due_entry, due_head, due_nothing, due_source, due_then, none_there, one_each}
use native.Mathlib.Nat as nat

-- ---- when it is due

pub record AtCell (d : Coming) : Type 0 where
  pub heads : HeadsCame d
  pub there : d.archive < length d.archives
  pub none : d.journal ≡ []

only_cell : (o : Option RraDef) (later : Due) → prep_or o later ≡ CellDue → (o ≡ None) × (later ≡ CellDue)
only_cell o later e = grind arith

no_entry : (d : Coming) → IsRebuilding d → d.archive < length d.archives → d.journal ≡ []
no_entry d is there = grind (arith, none_there)

pub at_cell : AllAsMany → (d : Coming) → IsRebuilding d → due (filed_in d) ≡ CellDue → AtCell d
at_cell as_many d is e = elim (cases_lt (length d.sources) d.sources_due) [
  | inl lt ↦ absurd (let e2 : SourceDue ≡ CellDue = sym (due_source d is lt) ∙ e in cc)
  | inr le ↦ grind (arith, only_cell, due_then, due_head, no_entry, due_entry, due_nothing)
]

-- ---- lists

pub All_set : {A : Type 0} (P : A → Type 0) (xs : List A) (i : ℕ) (y : A) → AllByRecursion P xs → P y → AllByRecursion P (set xs i y)
All_set P [] i y all one = tt
All_set P (x ∷ xs) zero y all one = (one, all.1)
All_set P (x ∷ xs) (suc i) y all one = (all.0, All_set P xs i y all.1 one)

drop_set : {A : Type 0} (xs : List A) (i : ℕ) (y : A) → drop (suc i) (set xs i y) ≡ drop (suc i) xs
drop_set [] i y = refl
drop_set (x ∷ xs) zero y = refl
drop_set (x ∷ xs) (suc i) y = drop_set xs i y

drop_set_here : {A : Type 0} (xs : List A) (i : ℕ) (y : A) → i < length xs → drop i (set xs i y) ≡ y ∷ drop (suc i) xs
drop_set_here [] i y h = absurd (omega arith)
drop_set_here (x ∷ xs) zero y h = refl
drop_set_here (x ∷ xs) (suc i) y h = drop_set_here xs i y (omega arith)

-- the cells with others from a place on
abbrev pub put_in : List Cell → ℕ → List Cell → List Cell
put_in xs n cells = take n xs ++ (cells ++ drop (length cells) (drop n xs))

pub length-put_in : (xs : List Cell) (n : ℕ) (cells : List Cell) → n + length cells ≤ length xs → length (put_in xs n cells) ≡ length xs
length-put_in xs n cells h =
    let rest = drop (length cells) (drop n xs) in
    omega (arith, length-append (take n xs) (cells ++ rest), length-append cells rest, length-take-le n xs (omega arith), length-drop (length cells) (drop n xs), length-drop n xs)

set_is_put : (xs : List Cell) (n : ℕ) (cell : Cell) → n < length xs → set xs n cell ≡ put_in xs n (cell ∷ [])
set_is_put [] n cell h = absurd (omega arith)
set_is_put (x ∷ xs) zero cell h = refl
set_is_put (x ∷ xs) (suc n) cell h = ap (λ (ys : List Cell). x ∷ ys) (set_is_put xs n cell (omega arith))

take_put_more : (xs ys : List Cell) (n : ℕ) (cells : List Cell) → n + length cells ≤ length xs → take (n + length cells) (put_in xs n cells ++ ys) ≡ take n (xs ++ ys) ++ cells
take_put_more xs ys n cells h =
    let front = take n xs in
    let rest = drop (length cells) (drop n xs) in
    let long : length (front ++ cells) ≡ n + length cells = omega (arith, length-append front cells, length-take-le n xs (omega arith)) in
    cc (ap (λ (zs : List Cell). zs ++ ys) (sym (append_assoc front cells rest)) ∙ append_assoc (front ++ cells) rest ys, take_at (front ++ cells) (rest ++ ys) (n + length cells) long, take-append-le n xs ys (omega arith))

take_front : {A : Type 0} (xs ys : List A) → take (length xs) (xs ++ ys) ≡ xs
take_front [] ys = refl
take_front (x ∷ xs) ys = ap (λ zs. x ∷ zs) (take_front xs ys)

-- ---- cells in the order of a file

-- some more
cells_more : (f : Rra → List Cell) (xs : List Rra) (i n : ℕ) (a b : Rra) (cells : List Cell) → i < length xs → a ≡ get_or xs i a → n + length cells ≤ length (f a) → f b ≡ put_in (f a) n cells
    → flat_map f (take i (set xs i b)) ++ take (n + length cells) (flat_map f (drop i (set xs i b))) ≡ (flat_map f (take i xs) ++ take n (flat_map f (drop i xs))) ++ cells
cells_more f [] i n a b cells h e few is = absurd (omega arith)
cells_more f (x ∷ xs) zero n a b cells h e few is = grind (arith, take_put_more)
cells_more f (x ∷ xs) (suc i) n a b cells h e few is = grind (arith, cells_more f xs i n a b cells (omega arith) e few is, append_assoc)

-- those of a whole archive
cells_over : (f : Rra → List Cell) (xs : List Rra) (i n : ℕ) (a : Rra) → i < length xs → a ≡ get_or xs i a → n ≡ length (f a)
    → flat_map f (take (suc i) xs) ++ [] ≡ flat_map f (take i xs) ++ take n (flat_map f (drop i xs))
cells_over f [] i n a h e is = absurd (omega arith)
cells_over f (x ∷ xs) zero n a h e is = grind (arith, append-nil, take_front)
cells_over f (x ∷ xs) (suc i) n a h e is = grind (arith, cells_over f xs i n a (omega arith) e is, append_assoc)

-- ---- the archives with one of them written to

heads_set : (xs : List Rra) (i : ℕ) (a b : Rra) → i < length xs → a ≡ get_or xs i a → b.def ≡ a.def → b.parts ≡ a.parts → map head_of (set xs i b) ≡ map head_of xs
heads_set [] i a b h e def parts = absurd (omega arith)
heads_set (x ∷ xs) zero a b h e def parts = grind arith
heads_set (x ∷ xs) (suc i) a b h e def parts = ap (λ (heads : List Head). head_of x ∷ heads) (heads_set xs i a b (omega arith) e def parts)

prepared_set : (sources : ℕ) (xs : List Rra) (i : ℕ) (a b : Rra) → i < length xs → a ≡ get_or xs i a → b.parts ≡ a.parts → ArePrepared sources xs → ArePrepared sources (set xs i b)
prepared_set sources (x ∷ []) zero a b h e parts is = tt
prepared_set sources (x ∷ y ∷ xs) zero a b h e parts is = (ap length parts ∙ (ap (λ (z : Rra). length z.parts) e ∙ is.0), is.1)
prepared_set sources (x ∷ y ∷ xs) (suc zero) a b h e parts is = (is.0, prepared_set sources (y ∷ xs) zero a b (omega arith) e parts is.1)
prepared_set sources (x ∷ y ∷ xs) (suc (suc i)) a b h e parts is = (is.0, prepared_set sources (y ∷ xs) (suc i) a b (omega arith) e parts is.1)
prepared_set sources x i a b h e parts is = absurd (omega arith)

fewer_none : (sources step last : ℕ) (xs : List Rra) → 0 < sources → AllByRecursion (IsArchiveSoFar sources step last) xs → AreFewer sources xs 0
fewer_none sources step last xs some all = grind arith

-- ---- cells are written

pub record IsPut (d : Coming) (a b : Rra) (cells : List Cell) : Type 0 where
  pub is : a ≡ get_or d.archives d.archive a
  pub def_same : b.def ≡ a.def
  pub parts_same : b.parts ≡ a.parts
  pub as_many : length b.rows ≡ length a.rows
  pub each_row : AllByRecursion (IsRow d.sources_due) b.rows
  pub few : d.filled + length cells ≤ length (cells_by_slot d.step d.last a)
  pub cells_are : cells_by_slot d.step d.last b ≡ put_in (cells_by_slot d.step d.last a) d.filled cells

abbrev pub cell_came : Coming → Rra → ℕ → ℕ → Coming
cell_came d b archive filled = record d { archives = set d.archives d.archive b; archive = archive; filled = filled }

pub archive_at : (d : Coming) (a : Rra) → IsRebuilding d → d.archive < length d.archives → a ≡ get_or d.archives d.archive a → IsArchiveSoFar d.sources_due d.step d.last a
archive_at d a is there e = subst (IsArchiveSoFar d.sources_due d.step d.last) (sym e) (All-at (IsArchiveSoFar d.sources_due d.step d.last) d.archives d.archive a is.archives_are there)

cell_keeps : (d : Coming) (a b : Rra) (cells : List Cell) (archive filled : ℕ) → IsRebuilding d → AtCell d → IsPut d a b cells → archive ≤ length d.archives
    → AreFewer d.sources_due (drop archive (set d.archives d.archive b)) filled → IsRebuilding (cell_came d b archive filled)
cell_keeps d a b cells archive filled is at put there few =
    let new = cell_came d b archive filled in
    let same = heads_set d.archives d.archive a b at.there put.is put.def_same put.parts_same in
    let old = archive_at d a is at.there put.is in
    let so_far : IsArchiveSoFar d.sources_due d.step d.last b = grind arith in
    let rows : sum (rows_of_archives (set d.archives d.archive b)) ≡ sum (rows_of_archives d.archives) = grind (arith, rows_same) in
    let count : length (set d.archives d.archive b) ≡ length d.archives = length-set d.archives d.archive b in
    grind (arith, All_set, prepared_set)

-- with so many more cells
abbrev pub with_more : Filed → List Cell → Filed
with_more f cells = record f { cells = f.cells ++ cells }

cell_within : (d : Coming) (a b : Rra) (cells : List Cell) → AtCell d → IsPut d a b cells → filed_in (cell_came d b d.archive (d.filled + length cells)) ≡ with_more (filed_in d) cells
cell_within d a b cells at put = grind (arith, heads_set, cells_more)

get_set : (xs : List Rra) (i : ℕ) (b : Rra) → i < length xs → b ≡ get_or (set xs i b) i b
get_set [] i b h = absurd (omega arith)
get_set (x ∷ xs) zero b h = refl
get_set (x ∷ xs) (suc i) b h = get_set xs i b (omega arith)

cell_over : (d : Coming) (a b : Rra) (cells : List Cell) → AtCell d → IsPut d a b cells → d.filled + length cells ≡ length (cells_by_slot d.step d.last a) → filed_in (cell_came d b (suc d.archive) 0) ≡ with_more (filed_in d) cells
cell_over d a b cells at put all =
    let f = cells_by_slot d.step d.last in
    let heads = heads_set d.archives d.archive a b at.there put.is put.def_same put.parts_same in
    let count : d.filled + length cells ≡ length (f b) = all ∙ sym (ap length put.cells_are ∙ length-put_in (f a) d.filled cells put.few) in
    let more = cells_over f (set d.archives d.archive b) d.archive (d.filled + length cells) b (omega (arith, at.there, length-set d.archives d.archive b)) (get_set d.archives d.archive b at.there) count
    ∙ cells_more f d.archives d.archive d.filled a b cells at.there put.is put.few put.cells_are in
    λ i. let g : Filed = record (filed_in d) { heads = heads i; cells = more i } in g

-- ---- the cursor

-- so many cells on it stays in its archive
pub record StaysIn (sources size last rows count : ℕ) (old new : Cursor) : Type 0 where
  pub archive_is : new.archive ≡ old.archive
  pub filled_is : filled_by sources new ≡ filled_by sources old + count
  pub few : filled_by sources new < sources * rows
  pub source_there : new.source < sources
  pub knows : KnowsPlace size last rows new

-- or goes on to the next one
pub record GoesOn (sources rows count : ℕ) (old new : Cursor) : Type 0 where
  pub archive_is : new.archive ≡ suc old.archive
  pub filled_is : filled_by sources new ≡ 0
  pub all : filled_by sources old + count ≡ sources * rows
  pub source_there : new.source < sources

mod_more : (n m rows : ℕ) → (n % rows + m) % rows ≡ (n + m) % rows
mod_more n m rows = grind (arith, mod-add-div' n rows, add-mul-mod_self_right (n % rows + m) (n / rows) rows)

pub place_on : (size last rows slot count : ℕ) → 0 < rows → (place_in size last rows slot + count) % rows ≡ place_in size last rows (slot + count)
place_on size last rows slot count some =
    let left = (last / size + 1) % rows in
    mod_more (slot + rows - left) count rows ∙ ap (λ n. n % rows) (let small : left < rows = omega arith in omega arith)

pub slots_apart : (slot rows sources : ℕ) → slot < rows → slot * sources + sources ≤ sources * rows
slots_apart slot rows sources h = grind arith

next_source : (sources size last rows place : ℕ) (old new : Cursor) → Advances sources rows place old new → place ≡ place_in size last rows old.slot → old.slot < rows → old.source + 1 < sources
    → StaysIn sources size last rows 1 old new
next_source sources size last rows place old new goes is slot more = grind arith

next_slot : (sources size last rows place : ℕ) (old new : Cursor) → Advances sources rows place old new → place ≡ place_in size last rows old.slot → old.source + 1 ≡ sources → old.slot + 1 < rows
    → StaysIn sources size last rows 1 old new
next_slot sources size last rows place old new goes is source more = grind (arith, add-one, slots_apart, place_on)

next_archive : (sources rows place : ℕ) (old new : Cursor) → Advances sources rows place old new → old.source + 1 ≡ sources → old.slot + 1 ≡ rows → GoesOn sources rows 1 old new
next_archive sources rows place old new goes source slot =
    let to : Cursor = record { archive = old.archive + 1; slot = 0; place = (place + 1) % rows; source = 0 } in
    let product : (old.slot + 1) * sources ≡ old.slot * sources + sources = ap (λ n. n * sources) (add-one old.slot) ∙ nat.suc-mul old.slot sources in
    grind arith

goes_on : (sources size last rows place : ℕ) (old new : Cursor) → Advances sources rows place old new → place ≡ place_in size last rows old.slot → old.source < sources → old.slot < rows
    → StaysIn sources size last rows 1 old new ⊎ GoesOn sources rows 1 old new
goes_on sources size last rows place old new goes is source slot = grind (arith, next_source, next_slot, next_archive)

-- ---- both

pub record HaveCome (d : Coming) (b : Rra) (cells : List Cell) (new : Cursor) : Type 0 where
  pub came : IsRebuilding (cell_came d b new.archive (filled_by d.sources_due new))
  pub cursor_is : IsCursor (cell_came d b new.archive (filled_by d.sources_due new)) new
  pub filed_is : filed_in (cell_came d b new.archive (filled_by d.sources_due new)) ≡ with_more (filed_in d) cells

pub cells_come : AllAsMany → (d : Coming) (a b : Rra) (cells : List Cell) (old new : Cursor) → IsRebuilding d → AtCell d → IsPut d a b cells → d.archive ≡ old.archive → d.filled ≡ filled_by d.sources_due old
    → StaysIn d.sources_due (resolution d.step a.def) d.last a.def.rows (length cells) old new ⊎ GoesOn d.sources_due a.def.rows (length cells) old new → HaveCome d b cells new
cells_come as_many d a b cells old new is at put archive filled goes =
    let wide : length (cells_by_slot d.step d.last a) ≡ d.sources_due * a.def.rows = archive_wide as_many d.sources_due d.step d.last a is.header_is.some_step (archive_at d a is at.there put.is) in
    elim goes [
      | inl stays ↦
          let same : new.archive ≡ d.archive = stays.archive_is ∙ sym archive in
          let more : filled_by d.sources_due new ≡ d.filled + length cells = stays.filled_is ∙ ap (λ n. n + length cells) (sym filled) in
          let first : drop new.archive (set d.archives d.archive b) ≡ b ∷ drop (suc d.archive) d.archives = ap (λ n. drop n (set d.archives d.archive b)) same ∙ drop_set_here d.archives d.archive b at.there in
          let few : filled_by d.sources_due new < d.sources_due * b.def.rows = subst (λ (def : RraDef). filled_by d.sources_due new < d.sources_due * def.rows) (sym put.def_same) stays.few in
          record {
            came = cell_keeps d a b cells new.archive (filled_by d.sources_due new) is at put (omega (arith, same, at.there)) (subst (λ (ys : List Rra). AreFewer d.sources_due ys (filled_by d.sources_due new)) (sym first) few);
            cursor_is = grind arith;
            filed_is = (λ i. filed_in (cell_came d b (same i) (more i))) ∙ cell_within d a b cells at put;
          }
      | inr on ↦
          let next : new.archive ≡ suc d.archive = on.archive_is ∙ ap suc (sym archive) in
          let none : filled_by d.sources_due new ≡ 0 = on.filled_is in
          let all : d.filled + length cells ≡ length (cells_by_slot d.step d.last a) = ap (λ n. n + length cells) filled ∙ (on.all ∙ sym wide) in
          let later : drop new.archive (set d.archives d.archive b) ≡ drop (suc d.archive) d.archives = ap (λ n. drop n (set d.archives d.archive b)) next ∙ drop_set d.archives d.archive b in
          record {
            came = cell_keeps d a b cells new.archive (filled_by d.sources_due new) is at put (omega (arith, next, at.there))
                (subst (λ n. AreFewer d.sources_due (drop new.archive (set d.archives d.archive b)) n) (sym none)
                (subst (λ (ys : List Rra). AreFewer d.sources_due ys 0) (sym later) (fewer_none d.sources_due d.step d.last (drop (suc d.archive) d.archives) is.header_is.some_source (All-drop (IsArchiveSoFar d.sources_due d.step d.last) (suc d.archive) d.archives is.archives_are))));
            cursor_is = grind (arith, knows_nothing);
            filed_is = (λ i. filed_in (cell_came d b (next i) (none i))) ∙ cell_over d a b cells at put all;
          }
    ]

pub cell_comes : AllAsMany → (d : Coming) (a b : Rra) (cell : Cell) (place : ℕ) (old new : Cursor) → IsRebuilding d → AtCell d → IsPut d a b (cell ∷ []) → d.archive ≡ old.archive → d.filled ≡ filled_by d.sources_due old
    → place ≡ place_in (resolution d.step a.def) d.last a.def.rows old.slot → old.source < d.sources_due → old.slot < a.def.rows → Advances d.sources_due a.def.rows place old new → HaveCome d b (cell ∷ []) new
cell_comes as_many d a b cell place old new is at put archive filled place_is source slot goes =
    cells_come as_many d a b (cell ∷ []) old new is at put archive filled (goes_on d.sources_due (resolution d.step a.def) d.last a.def.rows place old new goes place_is source slot)

-- ---- where the cell goes

-- the cursor is within the archive
pub slot_there : (d : Coming) (a : Rra) (cursor : Cursor) → IsRebuilding d → d.archive < length d.archives → a ≡ get_or d.archives d.archive a → d.filled ≡ filled_by d.sources_due cursor → cursor.slot < a.def.rows
slot_there d a cursor is there e filled =
    let first = drop_here d.archives d.archive a there e in
    grind arith

pub knows_here : (d : Coming) (a : Rra) (cursor : Cursor) → d.archive < length d.archives → a ≡ get_or d.archives d.archive a → IsCursor d cursor → KnowsPlace (resolution d.step a.def) d.last a.def.rows cursor
knows_here d a cursor there e is = subst (λ (xs : List Rra). KnowsPlaceIn d.step d.last xs cursor) (drop_here d.archives d.archive a there e) is.knows_place

-- by the law of the cells in slots
abbrev pub AllPut : Type 0
AllPut = (resolution last sources : ℕ) (rows : List (List Cell)) (slot source : ℕ) (cell : Cell) → PutsCell resolution last sources rows slot source cell

abbrev pub with_cell_at : Rra → ℕ → ℕ → Cell → Rra
with_cell_at a place source cell = record a { rows = set a.rows place (set (get_or a.rows place []) source cell) }

pub is_put : AllAsMany → AllPut → (d : Coming) (a : Rra) (cell : Cell) (place : ℕ) (cursor : Cursor) → IsRebuilding d → d.archive < length d.archives → a ≡ get_or d.archives d.archive a
    → d.filled ≡ filled_by d.sources_due cursor → place ≡ place_in (resolution d.step a.def) d.last a.def.rows cursor.slot → cursor.source < d.sources_due → place < length a.rows → IsBounded cell
    → IsPut d a (with_cell_at a place cursor.source cell) (cell ∷ [])
is_put as_many puts d a cell place cursor is there e filled place_is source inside bounded =
    let so_far = archive_at d a is there e in
    let size : 0 < resolution d.step a.def = nat.mul-pos is.header_is.some_step so_far.def_is.some_steps in
    let row : IsRow d.sources_due (get_or a.rows place []) = All-at (IsRow d.sources_due) a.rows place [] so_far.each_row inside in
    let slot : cursor.slot < length a.rows = omega (arith, slot_there d a cursor is there e filled, so_far.rows_are) in
    let put = puts (resolution d.step a.def) d.last d.sources_due a.rows cursor.slot cursor.source cell size (one_each d.sources_due a.rows so_far.each_row) slot source in
    let here : place_in (resolution d.step a.def) d.last (length a.rows) cursor.slot ≡ place = ap (λ n. place_in (resolution d.step a.def) d.last n cursor.slot) so_far.rows_are ∙ sym place_is in
    let written : IsRow d.sources_due (set (get_or a.rows place []) cursor.source cell) = record { one_each = length-set (get_or a.rows place []) cursor.source cell ∙ row.one_each; each = All_set IsBounded (get_or a.rows place []) cursor.source cell row.each bounded } in
    let wide : length (cells_by_slot d.step d.last a) ≡ d.sources_due * a.def.rows = archive_wide as_many d.sources_due d.step d.last a is.header_is.some_step so_far in
    let first = drop_here d.archives d.archive a there e in
    let few : d.filled < d.sources_due * a.def.rows = subst (λ (ys : List Rra). AreFewer d.sources_due ys d.filled) first is.filled_few in
    record {
      is = e;
      def_same = refl;
      parts_same = refl;
      as_many = length-set a.rows place (set (get_or a.rows place []) cursor.source cell);
      each_row = All_set (IsRow d.sources_due) a.rows place (set (get_or a.rows place []) cursor.source cell) so_far.each_row written;
      few = omega (arith, few, wide);
      cells_are = grind (arith, set_is_put);
    }

-- ---- what code needs to know

pub record CellHere (d : Coming) (a : Rra) (cursor : Cursor) : Type 0 where
  pub at : AtCell d
  pub so_far : IsArchiveSoFar d.sources_due d.step d.last a
  pub slot : cursor.slot < a.def.rows
  pub knows : KnowsPlace (resolution d.step a.def) d.last a.def.rows cursor

pub cell_here : AllAsMany → (d : Coming) (a : Rra) (cursor : Cursor) → IsRebuilding d → IsCursor d cursor → due (filed_in d) ≡ CellDue → a ≡ get_or d.archives d.archive a → d.filled ≡ filled_by d.sources_due cursor → CellHere d a cursor
cell_here as_many d a cursor is at e here filled =
    let cell = at_cell as_many d is e in
    record { at = cell; so_far = archive_at d a is cell.there here; slot = slot_there d a cursor is cell.there here filled; knows = knows_here d a cursor cell.there here at }

-- by the law of the rows in slots
abbrev pub EachHasPlace : Type 0
EachHasPlace = (resolution last rows slot : ℕ) → SlotHasPlace resolution last rows slot

pub place_there : EachHasPlace → (d : Coming) (a : Rra) (cursor : Cursor) (place : ℕ) → IsRebuilding d → CellHere d a cursor → place ≡ place_in (resolution d.step a.def) d.last a.def.rows cursor.slot → place < a.def.rows
place_there places d a cursor place is here e = grind arith

pub row_there : (d : Coming) (a : Rra) (cursor : Cursor) (place : ℕ) → CellHere d a cursor → place < a.def.rows → length (get_or a.rows place []) ≡ d.sources_due
row_there d a cursor place here inside =
    let row : IsRow d.sources_due (get_or a.rows place []) = All-at (IsRow d.sources_due) a.rows place [] here.so_far.each_row (omega (arith, inside, here.so_far.rows_are)) in
    row.one_each
