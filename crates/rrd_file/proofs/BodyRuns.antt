-- The pieces of a body that keeps to its rules do come, one after another: sources, heads, cells.
use Rattle.std.specs.Prelude.{◌≡◌, ◌++◌, ◌∷◌, ◌+◌, ◌*◌, ◌/◌, ◌%◌, ◌<◌, ◌≤◌, List, [], Bool, length, map, false, Some, None}
use Rattle.rrd_file.proofs.Names.{◌∙◌, sym, ap, subst, refl, arith, append_assoc, append-nil, length-append, AllByRecursion, flat_map, list_any, lt-ltb, le-ltb, map-append, sum-map, sum_by-append, mul-le, Cell, Name, same_name, IsAccepted, IsBounded, Average, Part, SourceDue, HeadDue, PrepDue, CellDue, EntryDue, NothingDue, DsDef, RraDef, Entry, Filed, Head, Header, Source, limits_of, IsArchiveDef, due, heads_with_part, rows_in_all, unprepared, has_source, is_double, names, AreParts, IsPart, IsSourceWithin, head_pieces, Piece, OfSource, OfArchive, OfPrep, OfCell, Stage, Body, Runs, Takes}
use Rattle.rrd_file.proofs.Order.{in_order}
use Rattle.rrd_file.proofs.Tests.{or_left, or_right}

pub runs_append : (s t u : Stage) (ps qs : List Piece) → Runs s ps t → Runs t qs u → Runs s (ps ++ qs) u
runs_append s t u [] qs r k = subst (λ (x : Stage). Runs x qs u) (sym r) k
runs_append s t u (p ∷ ps) qs r k = (r.0, r.1, runs_append r.0 t u ps qs r.2 k)

-- a body with these lists
abbrev pub body : Header → List Source → List Head → List Cell → List Entry → Filed
body h sources heads cells entries = record { header = h; sources = sources; heads = heads; cells = cells; entries = entries }

-- ---- which piece is due

some_more : (f : Filed) → length f.sources < f.header.sources → due f ≡ SourceDue
unfolding due
some_more f more = grind arith

prep_due : (f : Filed) (def : RraDef) → f.header.sources ≤ length f.sources → unprepared f.header.sources f.heads ≡ Some def → due f ≡ PrepDue def
unfolding due
prep_due f def sources u = grind arith

head_due : (f : Filed) → f.header.sources ≤ length f.sources → unprepared f.header.sources f.heads ≡ None → length f.heads < f.header.archives → due f ≡ HeadDue
unfolding due
head_due f sources u heads = grind arith

cell_due : (f : Filed) → f.header.sources ≤ length f.sources → unprepared f.header.sources f.heads ≡ None → f.header.archives ≤ length f.heads → length f.cells < f.header.sources * rows_in_all f.heads → due f ≡ CellDue
unfolding due
cell_due f sources u heads cells = grind arith

-- the body but for its entries has come
pub record IsBodyIn (f : Filed) : Type 0 where
  pub sources : f.header.sources ≤ length f.sources
  pub prepared : unprepared f.header.sources f.heads ≡ None
  pub heads : f.header.archives ≤ length f.heads
  pub cells : f.header.sources * rows_in_all f.heads ≤ length f.cells

pub entry_due : (f : Filed) → IsBodyIn f → length f.entries < f.header.entries → due f ≡ EntryDue
unfolding due
entry_due f h entries = grind arith

pub nothing_due : (f : Filed) → IsBodyIn f → f.header.entries ≤ length f.entries → due f ≡ NothingDue
unfolding due
nothing_due f h entries = grind (arith, le-ltb, in_order)

-- ---- sources

-- what no name passes, the name of one of the sources doesn't
none_there : (test : Name → Bool) (xs : List DsDef) (y : DsDef) (ys : List DsDef) → list_any test (names (xs ++ y ∷ ys)) ≡ false → test y.name ≡ false
none_there test [] y ys e = or_left (test y.name) (list_any test (names ys)) e
none_there test (x ∷ xs) y ys e = none_there test xs y ys (or_right (test x.name) (list_any test (names (xs ++ y ∷ ys))) e)

-- where no name stands twice, no earlier source has the name of a later one
new_name : (xs : List DsDef) (y : DsDef) (ys : List DsDef) → is_double (names (xs ++ y ∷ ys)) ≡ false → has_source xs y.name ≡ false
new_name [] y ys e = refl
new_name (x ∷ xs) y ys e = grind (arith, new_name xs y ys (or_right (list_any (same_name x.name) (names (xs ++ y ∷ ys))) (is_double (names (xs ++ y ∷ ys))) e), or_right, none_there, or_left)

abbrev pub defs_of : List Source → List DsDef
defs_of sources = map (λ (source : Source). source.def) sources

pub record IsFiledSource (h : Header) (s : Source) : Type 0 where
  pub source_is : IsSourceWithin (limits_of h.version) s.def
  pub raw_is : IsAccepted s.def.kind s.raw
  pub part_is : IsPart Average (h.last % h.step) s.part

source_taken : (h : Header) (sources : List Source) (s : Source) → IsFiledSource h s → length sources < h.sources → has_source (defs_of sources) s.def.name ≡ false → Takes (Body (body h sources [] [] [])) (OfSource s) (Body (body h (sources ++ s ∷ []) [] [] []))
unfolding Takes
source_taken h sources s is more new = grind (arith, some_more)

pub sources_run : (h : Header) (xs ys all : List Source) → xs ++ ys ≡ all → length all ≡ h.sources → is_double (names (defs_of all)) ≡ false → AllByRecursion (IsFiledSource h) ys → Runs (Body (body h xs [] [] [])) (map OfSource ys) (Body (body h all [] [] []))
sources_run h xs [] all e many once are = ap (λ l. Body (body h l [] [] [])) (sym (append-nil xs) ∙ e)
sources_run h xs (y ∷ ys) all e many once are = grind (arith, length-append, map-append, new_name, source_taken, sources_run h (xs ++ y ∷ []) ys all (append_assoc xs (y ∷ []) ys ∙ e) many once are.1, append_assoc)

-- ---- heads

pub record IsFiledHead (h : Header) (head : Head) : Type 0 where
  pub def_is : IsArchiveDef (limits_of h.version) head.def
  pub parts_are : AreParts head.def.function h.sources (h.last / h.step % head.def.steps) head.parts

-- all but the last one have their preparations
all_prepared : (h : Header) (heads : List Head) → AllByRecursion (IsFiledHead h) heads → unprepared h.sources heads ≡ None
all_prepared h [] are = refl
all_prepared h (head ∷ heads) are = rw (le-ltb (length head.parts) h.sources (omega (arith, are.0.parts_are.one_each))) (all_prepared h heads are.1)

last_unprepared : (h : Header) (heads : List Head) (last : Head) → AllByRecursion (IsFiledHead h) heads → length last.parts < h.sources → unprepared h.sources (heads ++ last ∷ []) ≡ Some last.def
last_unprepared h [] last are more = rw (lt-ltb (length last.parts) h.sources more) refl
last_unprepared h (head ∷ heads) last are more = rw (le-ltb (length head.parts) h.sources (omega (arith, are.0.parts_are.one_each))) (last_unprepared h heads last are.1 more)

part_added : (heads : List Head) (last : Head) (part : Part) → heads_with_part (heads ++ last ∷ []) part ≡ heads ++ record last { parts = last.parts ++ part ∷ [] } ∷ []
part_added (head ∷ next ∷ heads) last part = ap (λ l. head ∷ l) (part_added (next ∷ heads) last part)
part_added x last part = refl

abbrev head_with : RraDef → List Part → Head
head_with def parts = record { def = def; parts = parts }

part_taken : (h : Header) (sources : List Source) (heads : List Head) (def : RraDef) (parts : List Part) (part : Part) → h.sources ≤ length sources → AllByRecursion (IsFiledHead h) heads → length parts < h.sources → IsPart def.function (h.last / h.step % def.steps) part → Takes (Body (body h sources (heads ++ head_with def parts ∷ []) [] [])) (OfPrep part) (Body (body h sources (heads ++ head_with def (parts ++ part ∷ []) ∷ []) [] []))
unfolding Takes
part_taken h sources heads def parts part all are more is =
    let f = body h sources (heads ++ head_with def parts ∷ []) [] [] in
    (record { def = def; is_due = prep_due f def all (last_unprepared h heads (head_with def parts) are more); part_is = is }, ap (λ l. Body (body h sources l [] [])) (sym (part_added heads (head_with def parts) part)))

parts_run : (h : Header) (sources : List Source) (heads : List Head) (def : RraDef) (ps qs parts : List Part) → ps ++ qs ≡ parts → h.sources ≤ length sources → AllByRecursion (IsFiledHead h) heads → length parts ≡ h.sources → AllByRecursion (IsPart def.function (h.last / h.step % def.steps)) qs → Runs (Body (body h sources (heads ++ head_with def ps ∷ []) [] [])) (map OfPrep qs) (Body (body h sources (heads ++ head_with def parts ∷ []) [] []))
parts_run h sources heads def ps [] parts e all are many is = ap (λ l. Body (body h sources (heads ++ head_with def l ∷ []) [] [])) (sym (append-nil ps) ∙ e)
parts_run h sources heads def ps (q ∷ qs) parts e all are many is = grind (arith, length-append, part_taken, parts_run h sources heads def (ps ++ q ∷ []) qs parts (append_assoc ps (q ∷ []) qs ∙ e) all are many is.1, append_assoc)

head_taken : (h : Header) (sources : List Source) (heads : List Head) (def : RraDef) → h.sources ≤ length sources → AllByRecursion (IsFiledHead h) heads → length heads < h.archives → IsArchiveDef (limits_of h.version) def → h.sources * (rows_in_all heads + def.rows) ≤ (limits_of h.version).max_cells → Takes (Body (body h sources heads [] [])) (OfArchive def) (Body (body h sources (heads ++ head_with def [] ∷ []) [] []))
unfolding Takes
head_taken h sources heads def all are more is few = grind (arith, head_due, all_prepared)

-- ---- how many rows there are

rows_joined : (xs ys : List Head) → rows_in_all (xs ++ ys) ≡ rows_in_all xs + rows_in_all ys
rows_joined xs ys =
    sum-map (λ (head : Head). head.def.rows) (xs ++ ys) ∙ sum_by-append (λ (head : Head). head.def.rows) xs ys
    ∙ (λ i. sym (sum-map (λ (head : Head). head.def.rows) xs) i + sym (sum-map (λ (head : Head). head.def.rows) ys) i)

pub rows_first : (x : Head) (xs : List Head) → rows_in_all (x ∷ xs) ≡ x.def.rows + rows_in_all xs
rows_first x xs = grind (arith, rows_joined (x ∷ []) xs)

all_filed : (h : Header) (xs ys : List Head) → AllByRecursion (IsFiledHead h) xs → AllByRecursion (IsFiledHead h) ys → AllByRecursion (IsFiledHead h) (xs ++ ys)
all_filed h [] ys a b = b
all_filed h (x ∷ xs) ys a b = (a.0, all_filed h xs ys a.1 b)

pub heads_run : (h : Header) (sources : List Source) (xs ys all : List Head) → xs ++ ys ≡ all → h.sources ≤ length sources → length all ≡ h.archives → h.sources * rows_in_all all ≤ (limits_of h.version).max_cells → AllByRecursion (IsFiledHead h) xs → AllByRecursion (IsFiledHead h) ys → Runs (Body (body h sources xs [] [])) (flat_map head_pieces ys) (Body (body h sources all [] []))
heads_run h sources xs [] all e are many few before is = ap (λ l. Body (body h sources l [] [])) (sym (append-nil xs) ∙ e)
heads_run h sources xs (y ∷ ys) all e are many few before is =
    let more : length xs < h.archives = omega (arith, many, ap length e, length-append xs (y ∷ ys)) in
    let rows : rows_in_all xs + y.def.rows ≤ rows_in_all all = omega (arith, ap rows_in_all e, rows_joined xs (y ∷ ys), rows_first y ys) in
    let few_here : h.sources * (rows_in_all xs + y.def.rows) ≤ (limits_of h.version).max_cells = omega (arith, few, mul-le h.sources (rows_in_all xs + y.def.rows) h.sources (rows_in_all all) (omega arith) rows) in
    let parts = parts_run h sources xs y.def [] y.parts y.parts refl are before is.0.parts_are.one_each is.0.parts_are.each in
    grind (arith, head_taken h sources xs y.def are before more is.0.def_is few_here, heads_run h sources (xs ++ y ∷ []) ys all (append_assoc xs (y ∷ []) ys ∙ e) are many few (all_filed h xs (y ∷ []) before (is.0, tt)) is.1, append_assoc xs (y ∷ []) ys, all_filed h xs (y ∷ []) before (is.0, tt), append_assoc, all_filed, runs_append)

-- ---- cells

-- sources and heads have come
pub record AreHeadsThere (h : Header) (sources : List Source) (heads : List Head) : Type 0 where
  pub sources_are : h.sources ≤ length sources
  pub prepared : unprepared h.sources heads ≡ None
  pub heads_are : h.archives ≤ length heads

pub heads_there : (h : Header) (sources : List Source) (heads : List Head) → h.sources ≤ length sources → length heads ≡ h.archives → AllByRecursion (IsFiledHead h) heads → AreHeadsThere h sources heads
heads_there h sources heads all many are = record { sources_are = all; prepared = all_prepared h heads are; heads_are = omega (arith, many) }

cell_taken : (h : Header) (sources : List Source) (heads : List Head) (cells : List Cell) (cell : Cell) → AreHeadsThere h sources heads → length cells < h.sources * rows_in_all heads → IsBounded cell → Takes (Body (body h sources heads cells [])) (OfCell cell) (Body (body h sources heads (cells ++ cell ∷ []) []))
unfolding Takes
cell_taken h sources heads cells cell there more is = grind (arith, cell_due)

pub cells_run : (h : Header) (sources : List Source) (heads : List Head) (xs ys all : List Cell) → xs ++ ys ≡ all → AreHeadsThere h sources heads → length all ≡ h.sources * rows_in_all heads → AllByRecursion IsBounded ys → Runs (Body (body h sources heads xs [])) (map OfCell ys) (Body (body h sources heads all []))
cells_run h sources heads xs [] all e there many are = ap (λ l. Body (body h sources heads l [])) (sym (append-nil xs) ∙ e)
cells_run h sources heads xs (y ∷ ys) all e there many are = grind (arith, length-append, cell_taken, cells_run h sources heads (xs ++ y ∷ []) ys all (append_assoc xs (y ∷ []) ys ∙ e) there many are.1, append_assoc)
