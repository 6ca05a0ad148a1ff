-- Which entry a valid content can undo, by its outline alone.
use Rattle.std.specs.Prelude.{◌≡◌, ◌+◌, ◌-◌, ◌*◌, ◌/◌, ◌<◌, ◌≤◌, ℕ, zero, suc, List, [], ◌∷◌, ◌++◌, length, map, take, sum, drop}
use Rattle.rrd_spec.proofs.Names.{common_steps, ◌∙◌, refl, sym, ap, subst, arith, get_or, set, length-append, AllByRecursion, fold, insert, take-map, get_or-set_other, get_or-set_same, length-map, length-set, Cell, Raw, IsAccepted, SavedSource, Outline, DsDef, RraDef, Limits, cells, rows_of_archives, settings_of, Rra, Content, definitions, AddedEntry, BeforeUpdate, Entry, RemovedEntry, ResizeEntry, SavedArchive, TuneEntry, UpdateEntry, put_back, put_back_each, rows_at, undone, with_rows_at, with_source, length-accepted, rows_wide, Version, Head, head_of, JournalLeavesValid, JournalParts, JournalsJoin, FiledOutline, JournalTakes, JournalTook, MayUndoEach, OutlineFollows, OutlineIsNeeded, OutlineSuffices, OutlinesAreNeeded, OutlinesSuffice, All-append, All-at, All-drop, All-take, outline_of, outline_undone, with_row_number, with_sources, IsSavedSource, MaySave, MaySaveEach, MayUndo, Stored, AreAccepted, FitEach, FitsArchive, IsRow, IsSourceWithin, IsValidArchiveWithin, IsValidWithin, Rise}
use Rattle.rrd_spec.proofs.ArchiveTunes.{fewer_taken, inserted, length-insert, map-insert, sum-insert, valid_with}
use Rattle.rrd_spec.specs.Journal.Outlines.{rows_of}
use Rattle.rrd_spec.proofs.ReadBack.{gives_back}

-- ---- lists

All-front : {A : Type 0} (P : A → Type 0) (xs ys : List A) → AllByRecursion P (xs ++ ys) → AllByRecursion P xs
All-front P [] ys all = tt
All-front P (x ∷ xs) ys all = (all.0, All-front P xs ys all.1)

All-set : {A : Type 0} (P : A → Type 0) (xs : List A) (i : ℕ) (x : A) → AllByRecursion P xs → P x → AllByRecursion P (set xs i x)
All-set P [] i x all here = tt
All-set P (y ∷ xs) zero x all here = (here, all.1)
All-set P (y ∷ xs) (suc i) x all here = (all.0, All-set P xs i x all.1 here)

-- the numbers of rows, by the archives and by their settings
pub rows_by_settings : (archives : List Rra) → rows_of (definitions archives) ≡ rows_of_archives archives
rows_by_settings [] = refl
rows_by_settings (archive ∷ archives) = ap (λ rows. archive.def.rows ∷ rows) (rows_by_settings archives)

-- ---- an update

put_back_settings : (archives : List Rra) (olds : List SavedArchive) → definitions (put_back_each archives olds) ≡ definitions archives
put_back_settings [] olds = refl
put_back_settings (archive ∷ archives) [] = refl
put_back_settings (archive ∷ archives) (old ∷ olds) = ap (λ defs. archive.def ∷ defs) (put_back_settings archives olds)

put_back_count : (archives : List Rra) (olds : List SavedArchive) → length (put_back_each archives olds) ≡ length archives
put_back_count [] olds = refl
put_back_count (archive ∷ archives) [] = refl
put_back_count (archive ∷ archives) (old ∷ olds) = ap suc (put_back_count archives olds)

put_back_rows : (archives : List Rra) (olds : List SavedArchive) → rows_of_archives (put_back_each archives olds) ≡ rows_of_archives archives
put_back_rows [] olds = refl
put_back_rows (archive ∷ archives) [] = refl
put_back_rows (archive ∷ archives) (old ∷ olds) = ap (λ rows. archive.def.rows ∷ rows) (put_back_rows archives olds)

saved_fits : (step from to sources : ℕ) (archive : Rra) (old : SavedArchive) → MaySave step from to sources archive.def old → FitsArchive step sources from to archive old
saved_fits step from to sources archive old may = assumption (may, may.parts_are, rows_wide sources old.rows may.each_row)

saved_valid : (limits : Limits) (step from to sources : ℕ) (archive : Rra) (old : SavedArchive) → IsValidArchiveWithin limits sources (to / step) archive → MaySave step from to sources archive.def old
    → IsValidArchiveWithin limits sources (from / step) (put_back archive old)
saved_valid limits step from to sources archive old is may = grind (arith, common_steps, length-append)

saved_may : (limits : Limits) (step from to sources : ℕ) (archive : Rra) (old : SavedArchive) → FitsArchive step sources from to archive old → IsValidArchiveWithin limits sources (from / step) (put_back archive old)
    → MaySave step from to sources archive.def old
saved_may limits step from to sources archive old fits is = assumption (fits, is, All-front (IsRow sources) old.rows (take (length archive.rows - length old.rows) archive.rows) is.each_row)

each_saved : (limits : Limits) (step from to sources : ℕ) (archives : List Rra) (olds : List SavedArchive) → AllByRecursion (IsValidArchiveWithin limits sources (to / step)) archives → MaySaveEach step from to sources (definitions archives) olds
    → FitEach step sources from to archives olds × AllByRecursion (IsValidArchiveWithin limits sources (from / step)) (put_back_each archives olds)
each_saved limits step from to sources [] [] is may = (tt, tt)
each_saved limits step from to sources (archive ∷ archives) (old ∷ olds) is may = grind (arith, each_saved limits step from to sources archives olds is.1 may.1, saved_fits step from to sources archive old may.0, saved_valid limits step from to sources archive old is.0 may.0)
each_saved limits step from to sources x y is may = absurd may

each_may : (limits : Limits) (step from to sources : ℕ) (archives : List Rra) (olds : List SavedArchive) → FitEach step sources from to archives olds → AllByRecursion (IsValidArchiveWithin limits sources (from / step)) (put_back_each archives olds)
    → MaySaveEach step from to sources (definitions archives) olds
each_may limits step from to sources [] [] fits is = tt
each_may limits step from to sources (archive ∷ archives) (old ∷ olds) fits is = grind (arith, saved_may limits step from to sources archive old fits.0 is.0, each_may limits step from to sources archives olds fits.1 is.1)
each_may limits step from to sources x y fits is = absurd fits

update_suffices : (limits : Limits) (now : Content) (old : BeforeUpdate) → OutlineSuffices limits now (UpdateEntry old)
update_suffices limits now old is may =
    let each = each_saved limits now.step old.last now.last (length now.sources) now.archives old.archives is.archives_are may.archives_are in
    let count = put_back_count now.archives old.archives in
    let all_cells : cells (settings_of (undone now (UpdateEntry old))) ≡ cells (settings_of now) = ap (λ rows. length now.sources * sum rows) (put_back_rows now.archives old.archives) in (
      record {
        earlier = may.earlier;
        one_raw_each = length-accepted now.sources old.raws may.raws_are;
        one_part_each = may.parts_are.one_each;
        archives_fit = each.0;
      },
      record {
        some_step = is.some_step;
        small_step = is.small_step;
        good_time = omega (arith, is.good_time, may.earlier);
        some_depth = is.some_depth;
        small_depth = is.small_depth;
        some_source = is.some_source;
        few_sources = is.few_sources;
        some_archive = omega (arith, count, is.some_archive);
        few_archives = omega (arith, count, is.few_archives);
        few_cells = subst (λ n. n ≤ limits.max_cells) (sym all_cells) is.few_cells;
        sources_are = is.sources_are;
        names_differ = is.names_differ;
        raws_are = may.raws_are;
        parts_are = may.parts_are;
        archives_are = each.1;
      },
    )

update_needed : (limits : Limits) (now : Content) (old : BeforeUpdate) → OutlineIsNeeded limits now (UpdateEntry old)
update_needed limits now old is fits then = assumption (fits, then, each_may limits now.step old.last now.last (length now.sources) now.archives old.archives fits.archives_fit then.archives_are)

-- ---- a tune

with_raws : List Raw → List SavedSource → List Raw
with_raws raws olds = fold (λ rs (old : SavedSource). set rs old.number old.raw) raws olds

with_both : Content → List DsDef → List Raw → Content
with_both now sources raws = record now { sources = sources; raws = raws }

sources_undone : (now : Content) (olds : List SavedSource) → fold with_source now olds ≡ with_both now (with_sources now.sources olds) (with_raws now.raws olds)
unfolding with_raws with_both
sources_undone now [] = refl
sources_undone now (old ∷ olds) = sources_undone (with_source now old) olds

pub sources_count : (sources : List DsDef) (olds : List SavedSource) → length (with_sources sources olds) ≡ length sources
sources_count sources [] = refl
sources_count sources (old ∷ olds) = sources_count (set sources old.number old.source) olds ∙ length-set sources old.number old.source

accepted_set : (sources : List DsDef) (raws : List Raw) (i : ℕ) (source : DsDef) (raw : Raw) → AreAccepted sources raws → IsAccepted source.kind raw → AreAccepted (set sources i source) (set raws i raw)
accepted_set [] [] i source raw all here = tt
accepted_set (s ∷ sources) (r ∷ raws) zero source raw all here = (here, all.1)
accepted_set (s ∷ sources) (r ∷ raws) (suc i) source raw all here = (all.0, accepted_set sources raws i source raw all.1 here)
accepted_set x y i source raw all here = absurd all

accepted_at : (sources : List DsDef) (raws : List Raw) (i : ℕ) (source : DsDef) (raw : Raw) → AreAccepted sources raws → i < length sources → IsAccepted (get_or sources i source).kind (get_or raws i raw)
accepted_at [] raws i source raw all inside = absurd (omega arith)
accepted_at (s ∷ sources) [] i source raw all inside = absurd all
accepted_at (s ∷ sources) (r ∷ raws) zero source raw all inside = all.0
accepted_at (s ∷ sources) (r ∷ raws) (suc i) source raw all inside = accepted_at sources raws i source raw all.1 (omega arith)

accepted_then : (limits : Limits) (sources : List DsDef) (raws : List Raw) (olds : List SavedSource) → AreAccepted sources raws → AllByRecursion (IsSavedSource limits) olds → AreAccepted (with_sources sources olds) (with_raws raws olds)
unfolding with_raws
accepted_then limits sources raws [] all each = all
accepted_then limits sources raws (old ∷ olds) all each = grind (arith, accepted_then limits (set sources old.number old.source) (set raws old.number old.raw) olds (accepted_set sources raws old.number old.source old.raw all each.0.1) each.1, accepted_set)

sources_then : (limits : Limits) (sources : List DsDef) (olds : List SavedSource) → AllByRecursion (IsSourceWithin limits) sources → AllByRecursion (IsSavedSource limits) olds → AllByRecursion (IsSourceWithin limits) (with_sources sources olds)
sources_then limits sources [] all each = all
sources_then limits sources (old ∷ olds) all each = grind (arith, sources_then limits (set sources old.number old.source) olds (All-set (IsSourceWithin limits) sources old.number old.source all each.0.0) each.1, All-set)

-- numbers rise, so those below the lowest keep their source and raw value
source_below : (lowest limit i : ℕ) (sources : List DsDef) (olds : List SavedSource) (d : DsDef) → Rise lowest limit olds → i < lowest → get_or (with_sources sources olds) i d ≡ get_or sources i d
source_below lowest limit i sources [] d rise below = refl
source_below lowest limit i sources (old ∷ olds) d rise below = cc (source_below (old.number + 1) limit i (set sources old.number old.source) olds d rise.2 (omega (arith, rise.0, below)), get_or-set_other sources old.number i old.source d (λ e. omega (arith, rise.0, below, e)))

raw_below : (lowest limit i : ℕ) (raws : List Raw) (olds : List SavedSource) (d : Raw) → Rise lowest limit olds → i < lowest → get_or (with_raws raws olds) i d ≡ get_or raws i d
unfolding with_raws
raw_below lowest limit i raws [] d rise below = refl
raw_below lowest limit i raws (old ∷ olds) d rise below = cc (raw_below (old.number + 1) limit i (set raws old.number old.raw) olds d rise.2 (omega (arith, rise.0, below)), get_or-set_other raws old.number i old.raw d (λ e. omega (arith, rise.0, below, e)))

-- each source that comes back stands among all in the end
each_source : (limits : Limits) (lowest : ℕ) (sources : List DsDef) (raws : List Raw) (olds : List SavedSource) → length raws ≡ length sources → Rise lowest (length sources) olds
    → AllByRecursion (IsSourceWithin limits) (with_sources sources olds) → AreAccepted (with_sources sources olds) (with_raws raws olds) → AllByRecursion (IsSavedSource limits) olds
unfolding with_raws
each_source limits lowest sources raws [] same rise all accepted = tt
each_source limits lowest sources raws (old ∷ olds) same rise all accepted =
    let i = old.number in
    let next = set sources i old.source in
    let next_raws = set raws i old.raw in
    let count : length next ≡ length sources = length-set sources i old.source in
    let raw_count : length next_raws ≡ length raws = length-set raws i old.raw in
    let after : Rise (i + 1) (length next) olds = subst (λ n. Rise (i + 1) n olds) (sym count) rise.2 in
    let inside : i < length (with_sources next olds) = omega (arith, rise.1, count, sources_count next olds) in
    let source : get_or (with_sources next olds) i old.source ≡ old.source =
    source_below (i + 1) (length next) i next olds old.source after (omega arith) ∙ get_or-set_same sources i old.source old.source (omega (arith, rise.1)) in
    let raw : get_or (with_raws next_raws olds) i old.raw ≡ old.raw =
    raw_below (i + 1) (length next) i next_raws olds old.raw after (omega arith) ∙ get_or-set_same raws i old.raw old.raw (omega (arith, rise.1, same)) in
    let is : IsSourceWithin limits old.source = subst (IsSourceWithin limits) source (All-at (IsSourceWithin limits) (with_sources next olds) i old.source all inside) in
    let takes = accepted_at (with_sources next olds) (with_raws next_raws olds) i old.source old.raw accepted inside in
    let took : IsAccepted old.source.kind old.raw = grind arith in
    ((is, took), each_source limits (i + 1) next next_raws olds (omega (arith, same, count, raw_count)) after all accepted)

tune_suffices : (limits : Limits) (now : Content) (olds : List SavedSource) → OutlineSuffices limits now (TuneEntry olds)
unfolding with_both
tune_suffices limits now olds is may = grind (arith, sources_count, sources_undone, sources_then, accepted_then)

tune_needed : (limits : Limits) (now : Content) (olds : List SavedSource) → OutlineIsNeeded limits now (TuneEntry olds)
unfolding with_both
tune_needed limits now olds is fits then =
    let valid : IsValidWithin limits (with_both now (with_sources now.sources olds) (with_raws now.raws olds)) = subst (IsValidWithin limits) (sources_undone now olds) then in
    assumption (fits, each_source limits 0 now.sources now.raws olds (length-accepted now.sources now.raws is.raws_are) fits.rise valid.sources_are valid.raws_are, valid)

-- ---- a resize

resized_settings : (archives : List Rra) (index : ℕ) (rows : List (List Cell)) → definitions (with_rows_at archives index rows) ≡ with_row_number (definitions archives) index (length rows)
resized_settings [] index rows = refl
resized_settings (archive ∷ archives) zero rows = refl
resized_settings (archive ∷ archives) (suc index) rows = ap (λ defs. archive.def ∷ defs) (resized_settings archives index rows)

resized_count : (archives : List Rra) (index : ℕ) (rows : List (List Cell)) → length (with_rows_at archives index rows) ≡ length archives
resized_count [] index rows = refl
resized_count (archive ∷ archives) zero rows = refl
resized_count (archive ∷ archives) (suc index) rows = ap suc (resized_count archives index rows)

-- the numbers of rows then
resized_rows : (archives : List Rra) (index : ℕ) (rows : List (List Cell)) → rows_of (with_row_number (definitions archives) index (length rows)) ≡ rows_of_archives (with_rows_at archives index rows)
resized_rows archives index rows = ap rows_of (sym (resized_settings archives index rows)) ∙ rows_by_settings (with_rows_at archives index rows)

-- the number of rows now
row_count : (limits : Limits) (sources steps : ℕ) (archives : List Rra) (index : ℕ) → AllByRecursion (IsValidArchiveWithin limits sources steps) archives → length (rows_at archives index) ≡ get_or (rows_of (definitions archives)) index 0
row_count limits sources steps [] index is = refl
row_count limits sources steps (archive ∷ archives) zero is = is.0.rows_are
row_count limits sources steps (archive ∷ archives) (suc index) is = row_count limits sources steps archives index is.1

resized_valid : (limits : Limits) (sources steps : ℕ) (archives : List Rra) (index : ℕ) (rows : List (List Cell)) → AllByRecursion (IsValidArchiveWithin limits sources steps) archives → 0 < length rows → length rows ≤ limits.max_rows → AllByRecursion (IsRow sources) rows
    → AllByRecursion (IsValidArchiveWithin limits sources steps) (with_rows_at archives index rows)
resized_valid limits sources steps [] index rows is some few each = tt
resized_valid limits sources steps (archive ∷ archives) zero rows is some few each = grind arith
resized_valid limits sources steps (archive ∷ archives) (suc index) rows is some few each = (is.0, resized_valid limits sources steps archives index rows is.1 some few each)

-- the rows of the resized archive
record AreRows (limits : Limits) (sources : ℕ) (rows : List (List Cell)) : Type 0 where
  pub some : 0 < length rows
  pub few : length rows ≤ limits.max_rows
  pub each : AllByRecursion (IsRow sources) rows

resized_here : (limits : Limits) (sources steps : ℕ) (archives : List Rra) (index : ℕ) (rows : List (List Cell)) → index < length archives → AllByRecursion (IsValidArchiveWithin limits sources steps) (with_rows_at archives index rows) → AreRows limits sources rows
resized_here limits sources steps [] index rows there is = absurd (omega arith)
resized_here limits sources steps (archive ∷ archives) zero rows there is = record { some = is.0.some_rows; few = is.0.few_rows; each = is.0.each_row }
resized_here limits sources steps (archive ∷ archives) (suc index) rows there is = resized_here limits sources steps archives index rows (omega arith) is.1

resize_suffices : (limits : Limits) (now : Content) (archive : ℕ) (rows : List (List Cell)) → OutlineSuffices limits now (ResizeEntry archive rows)
resize_suffices limits now archive rows is may =
    let count = resized_count now.archives archive rows in
    let defs : length (definitions now.archives) ≡ length now.archives = length-map now.archives (λ (a : Rra). a.def) in
    let was = row_count limits (length now.sources) (now.last / now.step) now.archives archive is.archives_are in (
      record {
        there = omega (arith, defs, may.there);
        one_cell_each = rows_wide (length now.sources) rows may.each_row;
        another = λ same. may.old_rows.another (same ∙ was);
      },
      record {
        some_step = is.some_step;
        small_step = is.small_step;
        good_time = is.good_time;
        some_depth = is.some_depth;
        small_depth = is.small_depth;
        some_source = is.some_source;
        few_sources = is.few_sources;
        some_archive = omega (arith, count, is.some_archive);
        few_archives = omega (arith, count, is.few_archives);
        few_cells = subst (λ all. length now.sources * sum all ≤ limits.max_cells) (resized_rows now.archives archive rows) may.old_rows.few_cells;
        sources_are = is.sources_are;
        names_differ = is.names_differ;
        raws_are = is.raws_are;
        parts_are = is.parts_are;
        archives_are = resized_valid limits (length now.sources) (now.last / now.step) now.archives archive rows is.archives_are may.old_rows.some may.old_rows.few may.each_row;
      },
    )

resize_needed : (limits : Limits) (now : Content) (archive : ℕ) (rows : List (List Cell)) → OutlineIsNeeded limits now (ResizeEntry archive rows)
resize_needed limits now archive rows is fits then =
    let defs : length (definitions now.archives) ≡ length now.archives = length-map now.archives (λ (a : Rra). a.def) in
    grind (arith, resized_here, row_count, resized_rows)

-- ---- an archive that was added, and one that was removed

added_suffices : (limits : Limits) (now : Content) → OutlineSuffices limits now AddedEntry
added_suffices limits now is may = grind (arith, common_steps, valid_with, fewer_taken)

added_needed : (limits : Limits) (now : Content) → OutlineIsNeeded limits now AddedEntry
added_needed limits now is fits then =
    (fits.0, omega (arith, fits.1, length-map now.archives (λ (a : Rra). a.def)))

rows_inserted : (archives : List Rra) (number : ℕ) (archive : Rra) → sum (rows_of (definitions archives)) + archive.def.rows ≡ sum (rows_of_archives (insert archives number archive))
rows_inserted archives number archive = cc (rows_by_settings archives, sum-insert (rows_of_archives archives) number archive.def.rows, map-insert (λ (a : Rra). a.def.rows) archives number archive)

removed_suffices : (limits : Limits) (now : Content) (number : ℕ) (archive : Rra) → OutlineSuffices limits now (RemovedEntry number archive)
removed_suffices limits now number archive is may =
    let defs : length (definitions now.archives) ≡ length now.archives = length-map now.archives (λ (a : Rra). a.def) in
    let n = length now.sources in
    let there : number ≤ length now.archives = omega (arith, defs, may.1.number_is.there) in
    let count = length-insert now.archives number archive there in
    let P = IsValidArchiveWithin limits n (now.last / now.step) in
    let this : P archive = grind arith in (
      (may.0, record { there = there; one_part_each = may.1.parts_are.one_each; rows_are = may.1.rows_are; one_cell_each = rows_wide n archive.rows may.1.each_row }),
      valid_with limits now (insert now.archives number archive) is (omega (arith, count)) (omega (arith, count, defs, may.1.number_is.few))
          (subst (λ (all : ℕ). n * all ≤ limits.max_cells) (rows_inserted now.archives number archive) may.1.settings_are.few_cells)
          (All-append P (take number now.archives) (archive ∷ drop number now.archives) (All-take P number now.archives is.archives_are) (this, All-drop P number now.archives is.archives_are)),
    )

removed_needed : (limits : Limits) (now : Content) (number : ℕ) (archive : Rra) → OutlineIsNeeded limits now (RemovedEntry number archive)
removed_needed limits now number archive is fits then =
    let defs : length (definitions now.archives) ≡ length now.archives = length-map now.archives (λ (a : Rra). a.def) in
    grind (arith, inserted, length-insert, rows_inserted)

-- ---- one entry

pub suffices : (limits : Limits) (now : Content) (entry : Entry) → OutlineSuffices limits now entry
suffices limits now (UpdateEntry old) = update_suffices limits now old
suffices limits now (TuneEntry olds) = tune_suffices limits now olds
suffices limits now (ResizeEntry archive rows) = resize_suffices limits now archive rows
suffices limits now AddedEntry = added_suffices limits now
suffices limits now (RemovedEntry number archive) = removed_suffices limits now number archive

pub needed : (limits : Limits) (now : Content) (entry : Entry) → OutlineIsNeeded limits now entry
needed limits now (UpdateEntry old) = update_needed limits now old
needed limits now (TuneEntry olds) = tune_needed limits now olds
needed limits now (ResizeEntry archive rows) = resize_needed limits now archive rows
needed limits now AddedEntry = added_needed limits now
needed limits now (RemovedEntry number archive) = removed_needed limits now number archive

-- ---- outlines

with_defs : Outline → List RraDef → Outline
with_defs outline defs = record outline { archives = defs }

step_stays : (now : Content) (entry : Entry) → (undone now entry).step ≡ now.step
unfolding with_both
step_stays now x = grind (arith, sources_undone)

outline_stays : (now : Content) (entry : Entry) → outline_of (undone now entry) ≡ outline_undone (outline_of now) entry
unfolding with_both with_defs
outline_stays now (UpdateEntry old) = ap (with_defs (record (outline_of now) { last = old.last })) (put_back_settings now.archives old.archives)
outline_stays now (TuneEntry olds) = ap outline_of (sources_undone now olds)
outline_stays now (ResizeEntry archive rows) = ap (with_defs (outline_of now)) (resized_settings now.archives archive rows)
outline_stays now AddedEntry =
    ap (with_defs (outline_of now)) (sym (take-map (λ (a : Rra). a.def) (length now.archives - 1) now.archives) ∙ ap (λ n. take (n - 1) (definitions now.archives)) (sym (length-map now.archives (λ (a : Rra). a.def))))
outline_stays now (RemovedEntry number archive) = ap (with_defs (outline_of now)) (map-insert (λ (a : Rra). a.def) now.archives number archive)

pub follows : (now : Content) (journal : List Entry) → OutlineFollows now journal
follows now [] = record { step_stays = refl; outline_is = refl }
follows now (entry ∷ journal) = grind (arith, follows (undone now entry) journal, step_stays, outline_stays)

filed_heads : (archives : List Rra) → map (λ (head : Head). head.def) (map head_of archives) ≡ definitions archives
filed_heads [] = refl
filed_heads (archive ∷ archives) = ap (λ defs. archive.def ∷ defs) (filed_heads archives)

outline_with : ℕ → List DsDef → List RraDef → Outline
outline_with last sources archives = record { last = last; sources = sources; archives = archives }

pub filed_outline : (version : Version) (d : Stored) → FiledOutline version d
unfolding outline_with
filed_outline version d a b = grind (arith, gives_back, filed_heads)

-- ---- journals

pub leaves_valid : (limits : Limits) (now : Content) (journal : List Entry) → JournalLeavesValid limits now journal
leaves_valid limits now [] is valid = is
leaves_valid limits now (entry ∷ journal) is valid = leaves_valid limits (undone now entry) journal valid.1 valid.2

pub joins : (limits : Limits) (now : Content) (newer older : List Entry) → JournalsJoin limits now newer older
joins limits now [] older one two = two
joins limits now (entry ∷ newer) older one two = (one.0, one.1, joins limits (undone now entry) newer older one.2 two)

pub parts : (limits : Limits) (now : Content) (newer older : List Entry) → JournalParts limits now newer older
parts limits now [] older valid = (tt, valid)
parts limits now (entry ∷ newer) older valid = grind (arith, parts limits (undone now entry) newer older valid.2)

-- the entry is judged by what is left
left : (limits : Limits) (now : Content) (journal : List Entry) (entry : Entry) → MayUndo limits (fold undone now journal).step (outline_of (fold undone now journal)) entry ≡ MayUndo limits now.step (fold outline_undone (outline_of now) journal) entry
left limits now journal entry = let f = follows now journal in (λ i. MayUndo limits (f.step_stays i) (f.outline_is i) entry)

pub takes : (limits : Limits) (now : Content) (journal : List Entry) (entry : Entry) → JournalTakes limits now journal entry
takes limits now journal entry is valid may = grind (arith, suffices, leaves_valid, left, joins)

pub took : (limits : Limits) (now : Content) (journal : List Entry) (entry : Entry) → JournalTook limits now journal entry
took limits now journal entry is valid =
    let p = parts limits now journal (entry ∷ []) valid in
    grind (arith, left, needed, leaves_valid)

each_left : (limits : Limits) (now : Content) (entry : Entry) (journal : List Entry) → MayUndoEach limits (undone now entry).step (outline_of (undone now entry)) journal ≡ MayUndoEach limits now.step (outline_undone (outline_of now) entry) journal
each_left limits now entry journal = (λ i. MayUndoEach limits (step_stays now entry i) (outline_stays now entry i) journal)

pub all_suffice : (limits : Limits) (now : Content) (journal : List Entry) → OutlinesSuffice limits now journal
all_suffice limits now [] is may = tt
all_suffice limits now (entry ∷ journal) is may =
    let one = suffices limits now entry is may.0 in
    (one.0, one.1, all_suffice limits (undone now entry) journal one.1 (subst (λ (P : Type 0). P) (sym (each_left limits now entry journal)) may.1))

pub all_needed : (limits : Limits) (now : Content) (journal : List Entry) → OutlinesAreNeeded limits now journal
all_needed limits now [] is valid = tt
all_needed limits now (entry ∷ journal) is valid = grind (arith, needed, each_left, all_needed limits (undone now entry) journal valid.1 valid.2)
