-- The end of a database is found: its numbers lead over its records to what follows them.
use Rattle.std.specs.Prelude.{◌≡◌, ◌+◌, ◌*◌, ◌-◌, ◌/◌, ◌^◌, ◌<◌, ◌≤◌, ◌++◌, ◌∷◌, [], ℕ, zero, suc, List, length, map, take, drop, unsigned_abs}
use Rattle.rrd_file.proofs.Names.{◌∙◌, ap, refl, sym, arith, append_assoc, length-append, length-drop, AllByRecursion, flat_map, drop_at, length-map, length-take, map-append, flat_map-append, Cell, HasWidth, SavedSource, Outline, RraDef, Version, One, Two, Header, filed, head_of, header_of, cells_by_slot, Content, Rra, definitions, BeforeUpdate, Entry, SavedArchive, UpdateEntry, TuneEntry, ResizeEntry, AddedEntry, RemovedEntry, MayRemove, MayResize, MaySaveEach, MayTune, MayUndo, MayUpdate, outline_of, outline_undone, with_row_number, Stored, MayUndoEach, OutlinesAreNeeded, DatabaseIsWithin, All-append, All-drop, All-take, Limits, present, IsValidArchive, IsValidDatabase, after_all_saved, after_body, after_cells, after_database, after_entries, after_rows, after_tag, after_version, archives_before, file_end, four_in, parts_size, rows_size, two_in, IsValidIn, EndIsFound, body_pieces, entry_pieces, head_pieces, layout_in, raws_and_parts, row_pieces, saved_pieces, spelled, counts, Piece, Tag, OfCell, OfPrep, OfSavedSource, AnUpdate, ATune, AResize, AnAddition, ARemoval, header_bytes, spell, archive_bytes, eight_bytes, four_bytes, function_byte, two_bytes}
use Rattle.rrd_file.proofs.OneAnswer.{file_is_layout}
use Rattle.rrd_file.proofs.Sound.{resized_length}
use Rattle.rrd_file.proofs.Told.{accepted_length}
use Rattle.rrd_file.proofs.Walked.{four_first, two_first}
use Rattle.rrd_file.proofs.length.Numbers.{ManyCells, some_seconds}
use Rattle.rrd_file.proofs.length.Pieces.{cells_have, head_has, heads_have, olds_have, preps_have, raws_have, rows_have, sources_have}
use Rattle.rrd_spec.proofs.Outlined.{sources_count}
use Rattle.rrd_base.proofs.Dues.{one_each}

-- ---- pieces

split : (ps qs : List Piece) (x : List ℕ) → spelled (ps ++ qs) ++ x ≡ spelled ps ++ (spelled qs ++ x)
split ps qs x = ap (λ l. l ++ x) (flat_map-append spell ps qs) ∙ append_assoc (spelled ps) (spelled qs) x

-- a number of rows after the bytes `p`, and then the bytes `r`, which end with the rows
rows_end : (n at more k : ℕ) (p r x : List ℕ) → length p ≡ at → k < 2 ^ 32 → length r ≡ more + rows_size n k → after_rows n at more ((p ++ (four_bytes k ++ r)) ++ x) ≡ x
unfolding after_rows
rows_end n at more k p r x before small behind = grind (arith, append_assoc, drop_at, four_first, length-append)

-- ---- entries

abbrev HasFewRows : RraDef → Type 0
HasFewRows def = def.rows ≤ 1000000

saved_end : (n : ℕ) (old : SavedArchive) (x : List ℕ) → length old.parts ≡ n → HasWidth n old.rows → length old.rows < 2 ^ 32 → after_rows n (parts_size n) 0 (spelled (saved_pieces old) ++ x) ≡ x
unfolding spell
saved_end n old x parts wide few = grind (arith, flat_map-append, rows_end, preps_have, rows_have)

all_saved_end : (step from to n : ℕ) (defs : List RraDef) (olds : List SavedArchive) (x : List ℕ) → AllByRecursion HasFewRows defs → MaySaveEach step from to n defs olds
    → after_all_saved n (length defs) (spelled (flat_map saved_pieces olds) ++ x) ≡ x
unfolding after_all_saved
all_saved_end step from to n [] [] x few may = refl
all_saved_end step from to n (def ∷ defs) (old ∷ olds) x few may =
    let rows : length old.rows < 2 ^ 32 = omega (arith, may.0.as_many, few.0) in
    let first = saved_end n old (spelled (flat_map saved_pieces olds) ++ x) may.0.parts_are.one_each (one_each n old.rows may.0.each_row) rows in
    cc (split (saved_pieces old) (flat_map saved_pieces olds) x, first, all_saved_end step from to n defs olds x few.1 may.1)
all_saved_end step from to n y z x few may = absurd may

update_end : (step : ℕ) (now : Outline) (old : BeforeUpdate) (x : List ℕ) → AllByRecursion HasFewRows now.archives → MayUpdate step now old
    → after_tag (length now.sources) (length now.archives) AnUpdate (eight_bytes old.last ++ (spelled (raws_and_parts old.raws old.parts ++ flat_map saved_pieces old.archives) ++ x)) ≡ x
unfolding after_tag
update_end step now old x few may = grind (arith, accepted_length, raws_have, drop_at, split, all_saved_end)

tune_end : (n m : ℕ) (now : Outline) (olds : List SavedSource) (x : List ℕ) → MayTune present now olds → after_tag n m ATune (two_bytes (length olds) ++ (spelled (map OfSavedSource olds) ++ x)) ≡ x
unfolding after_tag
tune_end n m now olds x may = grind (arith, two_bytes, two_first, olds_have, drop_at)

resize_end : (m : ℕ) (now : Outline) (archive : ℕ) (rows : List (List Cell)) (x : List ℕ) → MayResize present now archive rows
    → after_tag (length now.sources) m AResize (two_bytes archive ++ (four_bytes (length rows) ++ (spelled (row_pieces rows) ++ x))) ≡ x
unfolding after_tag
resize_end m now archive rows x may =
    let n = length now.sources in
    rows_end n 2 0 (length rows) (two_bytes archive) (spelled (row_pieces rows)) x refl (omega (arith, may.old_rows.few)) (omega (arith, rows_have n rows (one_each n rows may.each_row)))

added_end : (n m : ℕ) (x : List ℕ) → after_tag n m AnAddition x ≡ x
unfolding after_tag
added_end n m x = refl

removed_end : (step m : ℕ) (now : Outline) (number : ℕ) (archive : Rra) (x : List ℕ) → MayRemove present step now number archive
    → after_tag (length now.sources) m ARemoval (two_bytes number ++ (archive_bytes archive.def ++ (spelled (map OfPrep archive.parts ++ row_pieces archive.rows) ++ x))) ≡ x
unfolding after_tag
removed_end step m now number archive x may =
    let n = length now.sources in
    let def = archive.def in
    let p = two_bytes number ++ (function_byte def.function ∷ (four_bytes def.steps ++ four_bytes (unsigned_abs def.xff))) in
    let r = spelled (map OfPrep archive.parts ++ row_pieces archive.rows) in
    let both = ap length (flat_map-append spell (map OfPrep archive.parts) (row_pieces archive.rows)) ∙ length-append (spelled (map OfPrep archive.parts)) (spelled (row_pieces archive.rows)) in
    let rows = rows_have n archive.rows (one_each n archive.rows may.each_row) ∙ ap (λ k. k * n * 16) may.rows_are in
    let size : length r ≡ parts_size n + rows_size n def.rows = omega (arith, both, preps_have archive.parts, may.parts_are.one_each, rows) in
    rows_end n 11 (parts_size n) def.rows p r x refl (omega (arith, may.settings_are.def_is.few_rows)) size

abbrev tag_for : Entry → Tag
tag_for (UpdateEntry old) = AnUpdate
tag_for (TuneEntry olds) = ATune
tag_for (ResizeEntry archive rows) = AResize
tag_for AddedEntry = AnAddition
tag_for (RemovedEntry number archive) = ARemoval

entry_end : (step : ℕ) (now : Outline) (k : ℕ) (e : Entry) (x : List ℕ) → AllByRecursion HasFewRows now.archives → MayUndo present step now e
    → after_entries (length now.sources) (length now.archives) (suc k) (spelled (entry_pieces e) ++ x) ≡ after_entries (length now.sources) (archives_before (length now.archives) (tag_for e)) k x
unfolding after_entries spell
entry_end step now k (UpdateEntry old) x few may = ap (after_entries (length now.sources) (length now.archives) k) (update_end step now old x few may)
entry_end step now k (TuneEntry olds) x few may = ap (after_entries (length now.sources) (length now.archives) k) (tune_end (length now.sources) (length now.archives) now olds x may)
entry_end step now k (ResizeEntry archive rows) x few may = ap (after_entries (length now.sources) (length now.archives) k) (resize_end (length now.archives) now archive rows x may)
entry_end step now k AddedEntry x few may = ap (after_entries (length now.sources) (length now.archives - 1) k) (added_end (length now.sources) (length now.archives) x)
entry_end step now k (RemovedEntry number archive) x few may = ap (after_entries (length now.sources) (length now.archives + 1) k) (removed_end step (length now.archives) now number archive x may.1)

-- ---- the outline after an entry is undone

sources_undone : (now : Outline) (e : Entry) → length (outline_undone now e).sources ≡ length now.sources
sources_undone now x = grind (arith, sources_count)

archives_undone : (step : ℕ) (now : Outline) (e : Entry) → MayUndo present step now e → length (outline_undone now e).archives ≡ archives_before (length now.archives) (tag_for e)
archives_undone step now (ResizeEntry archive rows) may = resized_length now.archives archive (length rows)
archives_undone step now AddedEntry may = omega (arith, length-take (length now.archives - 1) now.archives)
archives_undone step now (RemovedEntry number archive) may =
    let front = take number now.archives in
    let back = drop number now.archives in
    omega (arith, may.1.number_is.there, length-append front (archive.def ∷ back), length-take number now.archives, length-drop number now.archives)
archives_undone step now x may = refl

few_resized : (defs : List RraDef) (i rows : ℕ) → rows ≤ 1000000 → AllByRecursion HasFewRows defs → AllByRecursion HasFewRows (with_row_number defs i rows)
few_resized [] i rows few h = tt
few_resized (def ∷ defs) zero rows few h = (few, h.1)
few_resized (def ∷ defs) (suc i) rows few h = (h.0, few_resized defs i rows few h.1)

few_undone : (step : ℕ) (now : Outline) (e : Entry) → AllByRecursion HasFewRows now.archives → MayUndo present step now e → AllByRecursion HasFewRows (outline_undone now e).archives
few_undone step now (ResizeEntry archive rows) few may = few_resized now.archives archive (length rows) may.old_rows.few few
few_undone step now AddedEntry few may = All-take HasFewRows (length now.archives - 1) now.archives few
few_undone step now (RemovedEntry number archive) few may =
    All-append HasFewRows (take number now.archives) (archive.def ∷ drop number now.archives) (All-take HasFewRows number now.archives few)
    (may.1.settings_are.def_is.few_rows, All-drop HasFewRows number now.archives few)
few_undone step now x few may = few

no_entries : (n m : ℕ) (x : List ℕ) → after_entries n m 0 x ≡ x
unfolding after_entries
no_entries n m x = refl

entries_end : (step : ℕ) (now : Outline) (es : List Entry) (x : List ℕ) → AllByRecursion HasFewRows now.archives → MayUndoEach present step now es
    → after_entries (length now.sources) (length now.archives) (length es) (spelled (flat_map entry_pieces es) ++ x) ≡ x
entries_end step now [] x few may = no_entries (length now.sources) (length now.archives) x
entries_end step now (e ∷ es) x few may = grind (arith, split, entry_end, sources_undone, archives_undone, entries_end step (outline_undone now e) es x (few_undone step now e few may.0) may.1, few_undone)

-- ---- cells

rows_first : (a : Rra) (x : List ℕ) → a.def.rows < 2 ^ 32 → four_in (drop 9 (spelled (head_pieces (head_of a)) ++ x)) ≡ a.def.rows
unfolding spell
rows_first a x small = four_first a.def.rows (spelled (map OfPrep a.parts) ++ x) small

cells_end : ManyCells → (n step last steps : ℕ) (archives : List Rra) (x y : List ℕ) → 0 < step → AllByRecursion (IsValidArchive n steps) archives
    → after_cells n (length archives) (spelled (flat_map head_pieces (map head_of archives)) ++ x) (spelled (map OfCell (flat_map (cells_by_slot step last) archives)) ++ y) ≡ y
unfolding after_cells
cells_end many n step last steps [] x y some are = refl
cells_end many n step last steps (a ∷ archives) x y some are = grind (arith, split (head_pieces (head_of a)) (flat_map head_pieces (map head_of archives)) x, map-append, split, rows_first, some_seconds, one_each, cells_have, drop_at, head_has, cells_end many n step last steps archives x y some are.1)

-- ---- the whole

-- what the laws of slots, outlines and versions say
pub record Ending : Type 0 where
  pub many : ManyCells
  pub needed : (limits : Limits) (now : Content) (journal : List Entry) → OutlinesAreNeeded limits now journal
  pub within : (version : Version) (now : Content) (journal : List Entry) → DatabaseIsWithin version now journal

few_rows : (n steps : ℕ) (archives : List Rra) → AllByRecursion (IsValidArchive n steps) archives → AllByRecursion HasFewRows (definitions archives)
few_rows n steps [] are = tt
few_rows n steps (a ∷ archives) are = (are.0.few_rows, few_rows n steps archives are.1)

journal_end : Ending → (c : Content) (j : List Entry) (x : List ℕ) → IsValidDatabase c j → after_entries (length c.sources) (length c.archives) (length j) (spelled (flat_map entry_pieces j) ++ x) ≡ x
journal_end laws c j x valid =
    let few = few_rows (length c.sources) (c.last / c.step) c.archives valid.content_is.archives_are in
    let may = laws.needed present c j valid.content_is valid.journal_is in
    let same : length (definitions c.archives) ≡ length c.archives = length-map c.archives (λ (a : Rra). a.def) in
    ap (λ m. after_entries (length c.sources) m (length j) (spelled (flat_map entry_pieces j) ++ x)) (sym same) ∙ entries_end c.step (outline_of c) j x few may

body_end : Ending → (v : Version) (c : Content) (j : List Entry) (x : List ℕ) → IsValidDatabase c j → let d : Stored = record { content = c; journal = j } in
    after_body (length c.sources) (length c.archives) (length j) (spelled (body_pieces (filed v d) ++ flat_map entry_pieces j) ++ x) ≡ x
unfolding after_body
body_end laws v c j x valid = grind (arith, split, drop_at, sources_have, heads_have, cells_end, journal_end)

version_end : (v : Version) (h : Header) (z : List ℕ) → h.sources < 2 ^ 16 → h.archives < 2 ^ 16 → h.entries < counts v → after_version v (header_bytes v h ++ z) ≡ after_body h.sources h.archives h.entries z
unfolding after_version
version_end v h z sources archives entries = grind (arith, two_bytes, two_first, four_first)

few_entries : (v : Version) (d : Stored) → IsValidIn v d → length d.journal < counts v
few_entries v d valid = grind arith

mark_end : (v : Version) (d : Stored) (x : List ℕ) → let f = filed v d in
    after_database (layout_in v d ++ x) ≡ after_version v (header_bytes v f.header ++ (spelled (body_pieces f ++ flat_map entry_pieces f.entries) ++ x))
unfolding after_database two_in spell
mark_end One d x = ap (λ l. after_version One l) (append_assoc (header_bytes One (header_of One d)) _ x)
mark_end Two d x = ap (λ l. after_version Two l) (append_assoc (header_bytes Two (header_of Two d)) _ x)

layout_end : Ending → (v : Version) (d : Stored) (x : List ℕ) → IsValidIn v d → after_database (layout_in v d ++ x) ≡ x
layout_end laws v d x valid =
    let c = d.content in
    let j = d.journal in
    let f = filed v d in
    let here = laws.within v c j valid in
    let sources : length c.sources < 2 ^ 16 = omega (arith, here.content_is.few_sources) in
    let archives : length c.archives < 2 ^ 16 = omega (arith, here.content_is.few_archives) in
    let z = spelled (body_pieces f ++ flat_map entry_pieces j) ++ x in
    mark_end v d x ∙ version_end v f.header z sources archives (few_entries v d valid) ∙ body_end laws v c j x here

pub end_is_found : Ending → (bytes : List ℕ) (d : Stored) → EndIsFound bytes d
unfolding file_end
end_is_found laws bytes d file rest = grind (arith, file_is_layout bytes d file, layout_end laws file.version d rest file.valid, length-append bytes rest)
