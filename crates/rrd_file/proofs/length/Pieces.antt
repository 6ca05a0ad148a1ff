-- How many bytes runs of pieces have: so many each, as often as they come.
use Rattle.std.specs.Prelude.{◌≡◌, ◌+◌, ◌*◌, ◌≤◌, ◌++◌, ℕ, List, [], ◌∷◌, map, length}
use Rattle.rrd_file.proofs.Names.{◌∙◌, ap, refl, arith, length-append, suc-mul, AllByRecursion, flat_map, sum_by, flat_map-append, flat_map-cons, length-flat_map, Cell, Raw, Part, HasWidth, DsDef, SavedSource, Source, filed, head_of, sources_of, Rra, BeforeUpdate, SavedArchive, UpdateEntry, TuneEntry, ResizeEntry, AddedEntry, RemovedEntry, IsSavedSource, Stored, newest, present, AreAccepted, IsSource, IsValidArchive, front_bytes, entry_pieces, head_pieces, raws_and_parts, row_pieces, saved_pieces, spelled, Piece, OfSource, OfArchive, OfPrep, OfCell, OfTag, OfRawAndPart, OfRows, OfCount, OfSavedSource, OfNumber, ATune, AResize, spell, cell_number, part_bytes, raw_bytes, raw_number, source_bytes, IsWide}
use Rattle.rrd_file.proofs.Gathering.{flat_flat}
use Rattle.rrd_file.proofs.Lengths.{length_source, part_length, short_name, source_length}
use Rattle.rrd_file.proofs.SignedBytes.{signed_length}

-- ---- single pieces

prep_has : (part : Part) → length (spell (OfPrep part)) ≡ 20
unfolding spell
prep_has part = part_length part

cell_has : (cell : Cell) → length (spell (OfCell cell)) ≡ 16
unfolding spell
cell_has cell = signed_length (cell_number cell)

source_has : (s : Source) → length s.def.name ≤ 19 → length (spell (OfSource s)) ≡ 97
unfolding spell
source_has s short = omega (arith, length_source s.def (raw_bytes s.raw) (part_bytes s.part) short, signed_length (raw_number s.raw), part_length s.part)

raw_and_part_has : (raw : Raw) (part : Part) → length (spell (OfRawAndPart raw part)) ≡ 36
unfolding spell
raw_and_part_has raw part = omega (arith, length-append (raw_bytes raw) (part_bytes part), signed_length (raw_number raw), part_length part)

saved_source_has : (old : SavedSource) → length old.source.name ≤ 19 → length (spell (OfSavedSource old)) ≡ 79
unfolding spell
saved_source_has old short = omega (arith, length-append (source_bytes old.source) (raw_bytes old.raw), signed_length (raw_number old.raw), source_length old.source short)

-- ---- runs of pieces

first_and_rest : {A : Type 0} (f : A → List ℕ) (x : A) (xs : List A) → length (flat_map f (x ∷ xs)) ≡ length (f x) + length (flat_map f xs)
first_and_rest f x xs = ap length (flat_map-cons f x xs) ∙ length-append (f x) (flat_map f xs)

joined : (ps qs : List Piece) → length (spelled (ps ++ qs)) ≡ length (spelled ps) + length (spelled qs)
joined ps qs = ap length (flat_map-append spell ps qs) ∙ length-append (spelled ps) (spelled qs)

-- the sum of what each item's pieces have
pub items_have : {A : Type 0} (g : A → List Piece) (xs : List A) → length (spelled (flat_map g xs)) ≡ sum_by (λ (x : A). length (spelled (g x))) xs
items_have g xs = ap length (flat_flat spell g xs) ∙ length-flat_map (λ x. spelled (g x)) xs

-- as many bytes each
all_have : {A : Type 0} (g : A → Piece) (n : ℕ) (xs : List A) → ((x : A) → length (spell (g x)) ≡ n) → length (spelled (map g xs)) ≡ length xs * n
all_have g n [] each = omega arith
all_have g n (x ∷ xs) each = omega (arith, first_and_rest spell (g x) (map g xs), each x, all_have g n xs each, suc-mul (length xs) n)

pub preps_have : (parts : List Part) → length (spelled (map OfPrep parts)) ≡ length parts * 20
preps_have parts = all_have OfPrep 20 parts prep_has

pub cells_have : (cells : List Cell) → length (spelled (map OfCell cells)) ≡ length cells * 16
cells_have cells = all_have OfCell 16 cells cell_has

pub rows_have : (sources : ℕ) (rows : List (List Cell)) → HasWidth sources rows → length (spelled (row_pieces rows)) ≡ length rows * sources * 16
rows_have sources [] is = omega arith
rows_have sources (row ∷ rows) is = grind (arith, joined, cells_have, rows_have sources rows is.1, suc-mul)

pub raws_have : (raws : List Raw) (parts : List Part) → length raws ≡ length parts → length (spelled (raws_and_parts raws parts)) ≡ length raws * 36
raws_have [] parts same = refl
raws_have (raw ∷ raws) [] same = absurd (omega (arith, same))
raws_have (raw ∷ raws) (part ∷ parts) same = grind (arith, first_and_rest, raw_and_part_has, raws_have raws parts (omega (arith, same)))

pub olds_have : (olds : List SavedSource) → AllByRecursion (IsSavedSource present) olds → length (spelled (map OfSavedSource olds)) ≡ length olds * 79
olds_have [] are = refl
olds_have (old ∷ olds) are = grind (arith, first_and_rest, saved_source_has, short_name, olds_have olds are.1)

-- ---- entries

pub saved_has : (sources : ℕ) (old : SavedArchive) → IsWide sources old → length (spelled (saved_pieces old)) ≡ sources * 20 + 4 + length old.rows * sources * 16
unfolding spell
saved_has sources old is = grind (arith, joined, preps_have, first_and_rest, rows_have)

pub update_has : (old : BeforeUpdate) → length old.raws ≡ length old.parts → length (spelled (entry_pieces (UpdateEntry old))) ≡ 9 + length old.raws * 36 + length (spelled (flat_map saved_pieces old.archives))
unfolding spell
update_has old same = grind (arith, joined, raws_have)

pub tune_has : (olds : List SavedSource) → AllByRecursion (IsSavedSource present) olds → length (spelled (entry_pieces (TuneEntry olds))) ≡ 3 + length olds * 79
unfolding spell
tune_has olds are = omega (arith, joined (OfTag ATune ∷ OfCount (length olds) ∷ []) (map OfSavedSource olds), olds_have olds are)

pub resize_has : (archive sources : ℕ) (rows : List (List Cell)) → HasWidth sources rows → length (spelled (entry_pieces (ResizeEntry archive rows))) ≡ 7 + length rows * sources * 16
unfolding spell
resize_has archive sources rows is = omega (arith, joined (OfTag AResize ∷ OfNumber archive ∷ OfRows (length rows) ∷ []) (row_pieces rows), rows_have sources rows is)

pub added_has : length (spelled (entry_pieces AddedEntry)) ≡ 1
unfolding spell
added_has = refl

pub removed_has : (number sources : ℕ) (archive : Rra) → HasWidth sources archive.rows → length (spelled (entry_pieces (RemovedEntry number archive))) ≡ 16 + length archive.parts * 20 + length archive.rows * sources * 16
unfolding spell
removed_has number sources archive is = grind (arith, joined, preps_have, rows_have)

-- ---- what is before the cells

pub sources_have : (defs : List DsDef) (raws : List Raw) (parts : List Part) → AllByRecursion IsSource defs → AreAccepted defs raws → length parts ≡ length defs → length (spelled (map OfSource (sources_of defs raws parts))) ≡ length defs * 97
sources_have [] raws parts are taken same = refl
sources_have (def ∷ defs) [] parts are taken same = absurd taken
sources_have (def ∷ defs) (raw ∷ raws) [] are taken same = absurd (omega (arith, same))
sources_have (def ∷ defs) (raw ∷ raws) (part ∷ parts) are taken same = grind (arith, first_and_rest, source_has, short_name, sources_have defs raws parts are.1 taken.1 (omega (arith, same)))

pub head_has : (archive : Rra) → length (spelled (head_pieces (head_of archive))) ≡ 13 + length archive.parts * 20
unfolding spell
head_has archive = omega (arith, first_and_rest spell (OfArchive archive.def) (map OfPrep archive.parts), preps_have archive.parts)

pub heads_have : (sources steps : ℕ) (archives : List Rra) → AllByRecursion (IsValidArchive sources steps) archives → length (spelled (flat_map head_pieces (map head_of archives))) ≡ length archives * (13 + 20 * sources)
heads_have sources steps [] are = omega arith
heads_have sources steps (archive ∷ archives) are = grind (arith, joined (head_pieces (head_of archive)) (flat_map head_pieces (map head_of archives)), head_has archive, heads_have sources steps archives are.1, suc-mul (length archives) (13 + 20 * sources))

-- ---- the whole

pub front_has : (d : Stored) → let f = filed newest d in length (front_bytes d) ≡ 30 + length (spelled (map OfSource f.sources)) + length (spelled (flat_map head_pieces f.heads))
unfolding spell
front_has d = grind (arith, length-append)
