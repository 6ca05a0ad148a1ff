-- A database from the lists that a file has of it.
use Rattle.std.specs.Prelude.{◌≡◌, ◌+◌, ◌*◌, ◌<◌, ℕ, List, [], ◌∷◌, ◌++◌, length, map, take, drop}
use Rattle.rrd_spec.proofs.Names.{◌∙◌, refl, sym, ap, arith, get_or, AllByRecursion, flat_map, drop_at, ext_get_or, take_at, Cell, Raw, Part, DsDef, RraDef, Limits, resolution, time_of, Rra, Content, Entry, length-accepted, rows_wide, Version, Head, Source, head_of, sources_of, FiledOnce, RowsFiledOnce, HasOneEach, by_slot, cells_by_slot, slot_of, Stored, IsValidArchiveWithin}
use Rattle.rrd_spec.proofs.Slotted.{place_has_slot}
use Rattle.rrd_spec.proofs.SlotCells.{as_many_cells, cell_stands_in_slot, wide_rows}
use native.Mathlib.Nat as nat

-- ---- rows from cells

-- the cell of a place and a source is that of the place's slot
cell_from : (size last sources : ℕ) (rows : List (List Cell)) (place source : ℕ) (d : Cell) → 0 < size → AllByRecursion (HasOneEach sources) rows → place < length rows → source < sources
    → get_or (get_or rows place []) source d ≡ get_or (by_slot size last rows) (slot_of size (length rows) (time_of size (length rows) last place) * sources + source) d
cell_from size last sources rows place source d some all inside within =
    let slot = slot_of size (length rows) (time_of size (length rows) last place) in
    let is = place_has_slot size last (length rows) place some inside in
    ap (λ k. get_or (get_or rows k []) source d) (sym is.back) ∙ sym (cell_stands_in_slot size last sources rows slot source d some all is.there within)

pub rows_filed_once : (size last sources : ℕ) (rows others : List (List Cell)) → RowsFiledOnce size last sources rows others
rows_filed_once size last sources rows others some all each count same =
    ext_get_or [] rows others count (λ place inside.
    let within : place < length others = omega (arith, inside, count) in
    let wide : length (get_or rows place []) ≡ sources = wide_rows sources rows place all inside in
    let other_wide : length (get_or others place []) ≡ sources = wide_rows sources others place each within in
    ext_get_or Cell.Unknown (get_or rows place []) (get_or others place []) (wide ∙ sym other_wide) (λ source low.
    let below : source < sources = omega (arith, low, wide) in
    grind (arith, cell_from size last sources rows place source Cell.Unknown some all inside below, cell_from size last sources others place source Cell.Unknown some each within below)))

-- ---- archives from heads and cells

-- what two lists of one length were joined of
joined_of : {A : Type 0} (xs ys vs ws : List A) → length xs ≡ length vs → xs ++ ys ≡ vs ++ ws → (xs ≡ vs) × (ys ≡ ws)
joined_of xs ys vs ws count same = (
  sym (take_at xs ys (length xs) refl) ∙ (ap (take (length xs)) same ∙ take_at vs ws (length xs) (sym count)),
  sym (drop_at xs ys (length xs) refl) ∙ (ap (drop (length xs)) same ∙ drop_at vs ws (length xs) (sym count)),
)

-- an archive whose rows can be told
record IsWhole (sources : ℕ) (archive : Rra) : Type 0 where
  pub some_steps : 0 < archive.def.steps
  pub rows_are : length archive.rows ≡ archive.def.rows
  pub each_row : AllByRecursion (HasOneEach sources) archive.rows

archive_with : RraDef → List Part → List (List Cell) → Rra
archive_with def parts rows = record { def = def; parts = parts; rows = rows }

archives_filed_once : (step last sources : ℕ) (archives others : List Rra) → 0 < step → AllByRecursion (IsWhole sources) archives → AllByRecursion (IsWhole sources) others → map head_of archives ≡ map head_of others
    → flat_map (cells_by_slot step last) archives ≡ flat_map (cells_by_slot step last) others → archives ≡ others
unfolding archive_with
archives_filed_once step last sources [] [] some all each heads cells = refl
archives_filed_once step last sources (archive ∷ archives) (other ∷ others) some all each heads cells =
    let head : head_of archive ≡ head_of other = cc in
    let later : map head_of archives ≡ map head_of others = cc in
    let def : archive.def ≡ other.def = ap (λ (h : Head). h.def) head in
    let size = resolution step archive.def in
    let some_size : 0 < size = nat.mul-pos some all.0.some_steps in
    let as_many : length (cells_by_slot step last archive) ≡ length (cells_by_slot step last other) = grind (arith, as_many_cells size last sources archive.rows some_size all.0.each_row, as_many_cells size last sources other.rows some_size each.0.each_row) in
    let both = joined_of (cells_by_slot step last archive) (flat_map (cells_by_slot step last) archives) (cells_by_slot step last other) (flat_map (cells_by_slot step last) others) as_many cells in
    grind (arith, rows_filed_once, archives_filed_once step last sources archives others some all.1 each.1 later both.1)
archives_filed_once step last sources x y some all each heads cells = absurd cc

-- ---- sources

abbrev defs_in : List Source → List DsDef
defs_in sources = map (λ (source : Source). source.def) sources

abbrev raws_in : List Source → List Raw
raws_in sources = map (λ (source : Source). source.raw) sources

abbrev parts_in : List Source → List Part
parts_in sources = map (λ (source : Source). source.part) sources

-- sources give back the lists that they are made of
pub record GivesBack (defs : List DsDef) (raws : List Raw) (parts : List Part) : Type 0 where
  pub defs_are : defs_in (sources_of defs raws parts) ≡ defs
  pub raws_are : raws_in (sources_of defs raws parts) ≡ raws
  pub parts_are : parts_in (sources_of defs raws parts) ≡ parts

pub gives_back : (defs : List DsDef) (raws : List Raw) (parts : List Part) → length raws ≡ length defs → length parts ≡ length defs → GivesBack defs raws parts
gives_back [] [] [] a b = record { defs_are = refl; raws_are = refl; parts_are = refl }
gives_back (def ∷ defs) (raw ∷ raws) (part ∷ parts) a b = grind (arith, gives_back defs raws parts (omega arith) (omega arith))
gives_back x y parts a b = absurd (omega arith)

-- ---- the database

archives_whole : (limits : Limits) (sources steps : ℕ) (archives : List Rra) → AllByRecursion (IsValidArchiveWithin limits sources steps) archives → AllByRecursion (IsWhole sources) archives
archives_whole limits sources steps [] is = tt
archives_whole limits sources steps (archive ∷ archives) is =
    (record { some_steps = is.0.some_steps; rows_are = is.0.rows_are; each_row = rows_wide sources archive.rows is.0.each_row }, archives_whole limits sources steps archives is.1)

content_with : ℕ → ℕ → List DsDef → ℕ → List Raw → List Part → List Rra → Content
content_with step depth sources last raws parts archives = record {
  step = step;
  depth = depth;
  sources = sources;
  last = last;
  raws = raws;
  parts = parts;
  archives = archives;
}

stored_with : Content → List Entry → Stored
stored_with content journal = record { content = content; journal = journal }

pub filed_once : (limits : Limits) (version : Version) (d other : Stored) → FiledOnce limits version d other
unfolding content_with stored_with
filed_once limits version d other is valid same =
    let c = d.content in
    let o = other.content in
    let mine = gives_back c.sources c.raws c.parts (length-accepted c.sources c.raws is.raws_are) is.parts_are.one_each in
    let its = gives_back o.sources o.raws o.parts (length-accepted o.sources o.raws valid.raws_are) valid.parts_are.one_each in
    grind (arith, archives_whole, archives_filed_once)
