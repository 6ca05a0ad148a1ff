-- The layout of a valid database is a whole file, which says that database.
use Rattle.std.specs.Prelude.{◌≡◌, ◌++◌, ◌∷◌, ◌+◌, ◌*◌, ◌/◌, ◌%◌, ◌<◌, ◌≤◌, ℕ, List, [], Bool, length, map, cond, false, sum, Option, Some}
use Rattle.rrd_file.proofs.Names.{◌∙◌, sym, ap, subst, refl, arith, append_assoc, append-nil, length-append, mul-add, mul_comm, AllByRecursion, enumerate_from, find, flat_map, range_with_len, option_map_or, length-map, flat_map-cons, fold-append, Cell, Raw, IsBounded, Average, Part, Outline, DsDef, Entry, Version, Head, Header, Source, filed, head_of, header_of, sources_of, Rra, Content, FiledOutline, MayUndoEach, OutlinesAreNeeded, Limits, limits_of, DatabaseIsWithin, All-append, outline_of, outline_undone, AsManyCells, IsHeader, outline_filed, outline_left, rows_in_all, is_double, names, resolution, all_cells, cells_by_slot, row_in, stands_in, Stored, AreAccepted, IsPart, IsRow, IsSourceWithin, IsValid, IsValidArchive, IsValidArchiveWithin, IsValidDatabaseWithin, IsWhole, body_pieces, entry_pieces, head_pieces, layout_in, pieces_filed, spelled, Mark, OfVersion, OfHeader, OfSource, OfCell, Start, Marked, Versioned, Body, Runs, Takes, body_size, size}
use Rattle.rrd_file.proofs.BodyRuns.{AreHeadsThere, IsBodyIn, IsFiledHead, IsFiledSource, body, cells_run, defs_of, entry_due, heads_run, heads_there, nothing_due, rows_first, runs_append, sources_run}
use Rattle.rrd_file.proofs.EntryRuns.{entry_runs}
use Rattle.rrd_file.proofs.Told.{lengths}
use Rattle.rrd_spec.proofs.ContentLemmas.{mul_positive}
use Rattle.rrd_base.proofs.Dues.{one_each}

-- ---- entries

body_in : (h : Header) (sources : List Source) (heads : List Head) (cells : List Cell) (entries : List Entry) → AreHeadsThere h sources heads → length cells ≡ h.sources * rows_in_all heads → IsBodyIn (body h sources heads cells entries)
body_in h sources heads cells entries there many = record { sources = there.sources_are; prepared = there.prepared; heads = there.heads_are; cells = omega (arith, many) }

entries_run : (h : Header) (sources : List Source) (heads : List Head) (cells : List Cell) (xs ys all : List Entry) → xs ++ ys ≡ all → AreHeadsThere h sources heads → length cells ≡ h.sources * rows_in_all heads → length all ≡ h.entries → MayUndoEach (limits_of h.version) h.step (outline_left (body h sources heads cells xs)) ys → Runs (Body (body h sources heads cells xs)) (flat_map entry_pieces ys) (Body (body h sources heads cells all))
entries_run h sources heads cells xs [] all e there many long may = ap (λ l. Body (body h sources heads cells l)) (sym (append-nil xs) ∙ e)
entries_run h sources heads cells xs (y ∷ ys) all e there many long may =
    let f = body h sources heads cells xs in
    let next = body h sources heads cells (xs ++ y ∷ []) in
    let more : length xs < h.entries = omega (arith, long, ap length e, length-append xs (y ∷ ys)) in
    let is_due = entry_due f (body_in h sources heads cells xs there many) more in
    let first = entry_runs f y (record { is_due = is_due; fits = may.0 }) in
    let left : outline_left next ≡ outline_undone (outline_left f) y = fold-append outline_undone (outline_filed f) xs (y ∷ []) in
    grind (arith, entries_run h sources heads cells (xs ++ y ∷ []) ys all (append_assoc xs (y ∷ []) ys ∙ e) there many long (subst (λ (o : Outline). MayUndoEach (limits_of h.version) h.step o ys) (sym left) may.1), append_assoc, runs_append)

-- ---- what a valid content has

sources_filed : (h : Header) (defs : List DsDef) (raws : List Raw) (parts : List Part) → AllByRecursion (IsSourceWithin (limits_of h.version)) defs → AreAccepted defs raws → length parts ≡ length defs → AllByRecursion (IsPart Average (h.last % h.step)) parts → AllByRecursion (IsFiledSource h) (sources_of defs raws parts)
sources_filed h [] raws parts a b e c = tt
sources_filed h (def ∷ defs) [] parts a b e c = absurd b
sources_filed h (def ∷ defs) (raw ∷ raws) [] a b e c = absurd (omega (arith, e))
sources_filed h (def ∷ defs) (raw ∷ raws) (part ∷ parts) a b e c = grind (arith, sources_filed h defs raws parts a.1 b.1 (omega (arith, e)) c.1)

heads_filed : (h : Header) (archives : List Rra) → AllByRecursion (IsValidArchiveWithin (limits_of h.version) h.sources (h.last / h.step)) archives → AllByRecursion (IsFiledHead h) (map head_of archives)
heads_filed h [] a = tt
heads_filed h (archive ∷ archives) a = grind (arith, heads_filed h archives a.1)

rows_same : (archives : List Rra) → rows_in_all (map head_of archives) ≡ sum (map (λ (archive : Rra). archive.def.rows) archives)
rows_same archives = ap sum (each archives)
  where
    each : (archives : List Rra) → map (λ (head : Head). head.def.rows) (map head_of archives) ≡ map (λ (archive : Rra). archive.def.rows) archives
    each [] = refl
    each (archive ∷ archives) = ap (λ l. archive.def.rows ∷ l) (each archives)

-- ---- cells

all_flat : {A : Type 0} (P : A → Type 0) (f : A → List Cell) (xs : List A) → ((x : A) → P x → AllByRecursion IsBounded (f x)) → AllByRecursion P xs → AllByRecursion IsBounded (flat_map f xs)
all_flat P f [] h k = tt
all_flat P f (x ∷ xs) h k = subst (AllByRecursion IsBounded) (sym (flat_map-cons f x xs)) (All-append IsBounded (f x) (flat_map f xs) (h x k.0) (all_flat P f xs h k.1))

-- the cells of the row that is found, if one is
abbrev AreFound : Option (ℕ × List Cell) → Type 0
AreFound found = AllByRecursion IsBounded (option_map_or (λ (found : ℕ × List Cell). found.1) found [])

either : (b : Bool) (x y : Option (ℕ × List Cell)) → AreFound x → AreFound y → AreFound (cond b x y)
either b x y h k = grind arith

found_bounded : (sources : ℕ) (test : ℕ × List Cell → Bool) (n : ℕ) (rows : List (List Cell)) → AllByRecursion (IsRow sources) rows → AreFound (find test (enumerate_from n rows))
found_bounded sources test n [] h = tt
found_bounded sources test n (row ∷ rows) h = either (test (n, row)) (Some (n, row)) (find test (enumerate_from (n + 1) rows)) h.0.each (found_bounded sources test (n + 1) rows h.1)

trivial : (xs : List ℕ) → AllByRecursion (λ (x : ℕ). Unit {0}) xs
trivial [] = tt
trivial (x ∷ xs) = (tt, trivial xs)

archive_bounded : (sources step last : ℕ) (archive : Rra) → AllByRecursion (IsRow sources) archive.rows → AllByRecursion IsBounded (cells_by_slot step last archive)
archive_bounded sources step last archive h =
    let size = resolution step archive.def in
    let slots = range_with_len 0 (length archive.rows) in
    all_flat (λ (x : ℕ). Unit {0}) (row_in size last archive.rows) slots
    (λ slot k. found_bounded sources (stands_in size (length archive.rows) last slot) 0 archive.rows h) (trivial slots)

cells_bounded : (d : Content) → IsValid d → AllByRecursion IsBounded (all_cells d)
cells_bounded d v =
    all_flat (IsValidArchive (length d.sources) (d.last / d.step)) (cells_by_slot d.step d.last) d.archives
    (λ archive is. archive_bounded (length d.sources) d.step d.last archive is.each_row) v.archives_are

-- an archive has as many cells as rows and sources
abbrev pub ManyCells : Type 0
ManyCells = (resolution last sources : ℕ) (rows : List (List Cell)) → AsManyCells resolution last sources rows

archives_cells : ManyCells → (sources step last steps : ℕ) (archives : List Rra) → 0 < step → AllByRecursion (IsValidArchive sources steps) archives → length (flat_map (cells_by_slot step last) archives) ≡ sources * rows_in_all (map head_of archives)
archives_cells many sources step last steps [] some h = omega arith
archives_cells many sources step last steps (archive ∷ archives) some h = grind (arith, mul_positive step archive.def.steps some h.0.some_steps, one_each sources archive.rows h.0.each_row, archives_cells many sources step last steps archives some h.1, length-append (cells_by_slot step last archive) (flat_map (cells_by_slot step last) archives), mul_comm archive.def.rows sources, rows_first (head_of archive) (map head_of archives), mul-add sources archive.def.rows (rows_in_all (map head_of archives)))

-- ---- the whole

header_is : (version : Version) (c : Content) (j : List Entry) → IsValidDatabaseWithin (limits_of version) c j → IsHeader (header_of version (record { content = c; journal = j }))
header_is version c j v = assumption (v.content_is, v)

begin_runs : (h : Header) → IsHeader h → Runs Start (Mark ∷ OfVersion h.version ∷ OfHeader h ∷ []) (Body (body h [] [] [] []))
unfolding Takes
begin_runs h is = (Marked, refl, (Versioned h.version, refl, (Body (body h [] [] [] []), (refl, is, refl), refl)))

-- what the laws of outlines and slots say
pub record Outlining : Type 0 where
  pub needed : (limits : Limits) (now : Content) (journal : List Entry) → OutlinesAreNeeded limits now journal
  pub filed_is : (version : Version) (d : Stored) → FiledOutline version d
  pub within : (version : Version) (now : Content) (journal : List Entry) → DatabaseIsWithin version now journal
  pub many : ManyCells

pub valid_is_whole : Outlining → (version : Version) (c : Content) (j : List Entry) → IsValidDatabaseWithin (limits_of version) c j → let d : Stored = record { content = c; journal = j } in IsWhole (layout_in version d) (filed version d)
unfolding size
valid_is_whole laws version c j v =
    let d : Stored = record { content = c; journal = j } in
    let h = header_of version d in
    let f = filed version d in
    let valid = (laws.within version c j v).content_is in
    let long = lengths c valid in
    let outline : outline_filed f ≡ outline_of c = laws.filed_is version d long.raws_are long.parts_are in
    let defs : defs_of f.sources ≡ c.sources = ap (λ (o : Outline). o.sources) outline in
    let count : length f.sources ≡ h.sources = sym (length-map f.sources (λ (source : Source). source.def)) ∙ ap length defs in
    let sources_are = sources_filed h c.sources c.raws c.parts v.content_is.sources_are v.content_is.raws_are v.content_is.parts_are.one_each v.content_is.parts_are.each in
    let once : is_double (names (defs_of f.sources)) ≡ false = ap (λ (l : List DsDef). is_double (names l)) defs ∙ v.content_is.names_differ in
    let heads_are = heads_filed h c.archives v.content_is.archives_are in
    let heads_count : length f.heads ≡ h.archives = length-map c.archives head_of in
    let few : h.sources * rows_in_all f.heads ≤ (limits_of version).max_cells = omega (arith, v.content_is.few_cells, ap (λ n. h.sources * n) (rows_same c.archives)) in
    let there = heads_there h f.sources f.heads (omega (arith, count)) heads_count heads_are in
    let many : length f.cells ≡ h.sources * rows_in_all f.heads = archives_cells laws.many h.sources c.step c.last (c.last / c.step) c.archives v.content_is.some_step valid.archives_are in
    let may = subst (λ (o : Outline). MayUndoEach (limits_of version) c.step o j) (sym outline) (laws.needed (limits_of version) c j v.content_is v.journal_is) in
    let a = sources_run h [] f.sources f.sources refl count once sources_are in
    let b = heads_run h f.sources [] f.heads f.heads refl (omega (arith, count)) heads_count few tt heads_are in
    let e = cells_run h f.sources f.heads [] f.cells f.cells refl there many (cells_bounded c valid) in
    let g = entries_run h f.sources f.heads f.cells [] j j refl there many refl may in
    let s0 = Body (body h [] [] [] []) in
    let s2 = Body (body h f.sources f.heads [] []) in
    let s3 = Body (body h f.sources f.heads f.cells []) in
    let ab = runs_append s0 (Body (body h f.sources [] [] [])) s2 (map OfSource f.sources) (flat_map head_pieces f.heads) a b in
    let abe = runs_append s0 s2 s3 (map OfSource f.sources ++ flat_map head_pieces f.heads) (map OfCell f.cells) ab e in
    let all = runs_append s0 s3 (Body f) (body_pieces f) (flat_map entry_pieces j) abe g in
    record {
      front = record {
        pieces = pieces_filed f;
        runs = runs_append Start s0 (Body f) (Mark ∷ OfVersion version ∷ OfHeader h ∷ []) (body_pieces f ++ flat_map entry_pieces j) (begin_runs h (header_is version c j v)) all;
        parts = sym (append-nil (spelled (pieces_filed f)));
      };
      done = ap body_size (nothing_due f (body_in h f.sources f.heads f.cells j there many) (omega arith));
    }
