-- The entry of an accepted command fits, and the journal stays valid.
use Rattle.std.specs.Prelude.{◌≡◌, ℕ, zero, suc, ◌+◌, ◌/◌, ◌<◌, ◌≤◌, min, Bool, true, false, cond, ◌||◌, List, [], ◌∷◌, length, map, take, ◌⊎◌, Option, Some, None, is_none, slice_set}
use Rattle.rrd_spec.proofs.Names.{common_steps, refl, sym, ◌∙◌, ap, subst, get_or, arith, ⊎_elim, cases_Bool, cond_both, or_parts, not-false, both_ways, leb-false, length-map, length-take, fold, enumerate_from, list_any, AllByRecursion, Raw, Name, DsDef, Rra, Content, Sampled, Tuned, Moment, moment_after, moment_of, moment_at_end, IsHistory, IsArchive, archive_of, content_listed, moved_listed, Asked, DatabaseChange, Updating, TuningBy, Resizing, settings_of, rows_of_archives, sample_of, samples_of, tuned, rows_changed, events, moved, names, is_double, is_bad_rows, grows_too_far, shrinks_too_far, no_sample, asks_nothing, names_no_source, verdict, is_accepted, Entry, RemovedEntry, TuneEntry, archive_at, archive_entry, rows_between, saved, is_asked, is_named, saved_sources, rows_at, entry, undone, Action, Changed, Reverted, Stored, changed, reverted, stored_after, AllUndo, ArchiveTune, Add, Remove, option_map_or, remove, length-remove, base_of_valid, length-accepted, rows_wide, sound, undone_depth, All-at, All-take, length-enumerate_from, IsRow, IsValidArchive, IsValid, FitsArchive, FitEach, FitsRemoved, FitsTune, Rise, Fits, IsValidJournal, IsValidDatabase, DatabaseStays, RevertTakesBack, RunsStay, Begins, Tuning, Update, Sample, Change, same_name, present}
use Rattle.rrd_spec.specs.History.{Reading}
use Rattle.rrd_spec.proofs.HistoryLemmas.{last_rises, length-sources}
use Rattle.rrd_spec.proofs.SampleLemmas.{rows_of_samples}
use Rattle.rrd_spec.proofs.Accepted.{accepted_passes, accepted_history, tune_passes}
use Rattle.rrd_spec.proofs.ArchiveTunes.{tune_added, tune_alone, tune_removed}
use Rattle.rrd_spec.proofs.LivesPlain.{is_listed}
use Rattle.rrd_spec.proofs.Undoing.{comes_back}
use Rattle.rrd_spec.proofs.Runs.{runs_agree, is_none-true}
use Rattle.rrd_spec.proofs.Moving.{listed_sound, moved_is, moved_depth, settings_by_time}
use Rattle.rrd_spec.proofs.NameLemmas.{same_is, same_itself}
use Rattle.rrd_spec.proofs.Staying.{sampled_keep, stays_valid}

-- ---- an update's entry

archive_fits : (base : Content) (sources end : ℕ) (list : List Reading) (index : ℕ) (archive : Rra) → IsValidArchive sources (base.last / base.step) archive → FitsArchive base.step sources base.last end (archive_of base (map Sampled list) (index, archive)) (saved base.step base.last end archive)
archive_fits base sources end list index archive is =
    let m = min (rows_between base.step archive.def base.last end) (length archive.rows) in
    record {
      same_function = refl;
      one_part_each = is.parts_are.one_each;
      as_many = omega (arith, length-take m archive.rows, rows_of_samples index archive.def.rows list, is.rows_are);
      one_cell_each = All-take _ m archive.rows (rows_wide sources archive.rows is.each_row);
    }

each_fits : (base : Content) (sources end : ℕ) (list : List Reading) (index : ℕ) (archives : List Rra) → AllByRecursion (IsValidArchive sources (base.last / base.step)) archives → FitEach base.step sources base.last end (map (archive_of base (map Sampled list)) (enumerate_from index archives)) (map (saved base.step base.last end) archives)
each_fits base sources end list index [] is = tt
each_fits base sources end list index (archive ∷ archives) is = (archive_fits base sources end list index archive is.0, each_fits base sources end list (index + 1) archives is.1)

time_rises : (sources : List DsDef) (template : List Name) (now : Moment) (readings : List Sample) → no_sample readings ≡ false → IsHistory now (map Sampled (map (sample_of sources template) readings)) → now.last < (fold moment_after now (map Sampled (map (sample_of sources template) readings))).last
time_rises sources template now readings some h = grind (arith, last_rises)

update_fits : (base : Content) (update : Update) → IsValid base → verdict base (Updating update) ≡ None → Fits (moved_listed base (Updating update)) (entry base (Updating update))
unfolding content_listed
update_fits base update is h =
    let list = samples_of base.sources update in
    let history = accepted_history base (Updating update) h in
    let end = moment_at_end base (map Sampled list) in
    let as_many : length end.sources ≡ length base.sources = length-sources (moment_of base) (map Sampled list) history in
    let P : ℕ → Type 0 = λ n. FitEach base.step n base.last end.last (map (archive_of base (map Sampled list)) (enumerate_from 0 base.archives)) (map (saved base.step base.last end.last) base.archives) in
    record {
      earlier = time_rises base.sources _ (moment_of base) update.samples (accepted_passes base (Updating update) h).1.1.0 history;
      one_raw_each = length-accepted base.sources base.raws is.raws_are ∙ sym as_many;
      one_part_each = is.parts_are.one_each ∙ sym as_many;
      archives_fit = subst P (sym as_many) (each_fits base (length base.sources) end.last list 0 base.archives is.archives_are);
    }

-- ---- a tune's entry

before_rise : (tuning : Tuning) (lowest number : ℕ) (sources : List DsDef) (raws : List Raw) → lowest ≤ number → Rise lowest (number + length sources) (saved_sources tuning number sources raws)
before_rise tuning lowest number [] raws h = tt
before_rise tuning lowest number (source ∷ sources) [] h = tt
before_rise tuning lowest number (source ∷ sources) (raw ∷ raws) h =
    let same : number + 1 + length sources ≡ number + suc (length sources) = omega arith in
    let rest : (low : ℕ) → low ≤ number + 1 → Rise low (number + suc (length sources)) (saved_sources tuning (number + 1) sources raws)
    = λ low k. subst (λ limit. Rise low limit (saved_sources tuning (number + 1) sources raws)) same (before_rise tuning low (number + 1) sources raws k) in
    grind arith

-- how many sources pass a test
abbrev how_many : (DsDef → Bool) → List DsDef → ℕ
how_many test [] = 0
how_many test (source ∷ sources) = cond (test source) 1 0 + how_many test sources

or_count : (a b : Bool) → cond (a || b) 1 0 ≤ cond a 1 0 + cond b 1 0
or_count a b = grind arith

before_count : (tuning : Tuning) (number : ℕ) (sources : List DsDef) (raws : List Raw) → length (saved_sources tuning number sources raws) ≤ how_many (is_named tuning) sources
before_count tuning number [] raws = omega arith
before_count tuning number (source ∷ sources) [] = omega arith
before_count tuning number (source ∷ sources) (raw ∷ raws) = grind (arith, before_count tuning (number + 1) sources raws)

named_count : (tuning : Tuning) (sources : List DsDef) → how_many (is_named tuning) sources ≤ how_many (is_asked tuning.heartbeat) sources + how_many (is_asked tuning.minimum) sources + how_many (is_asked tuning.maximum) sources + how_many (is_asked tuning.kind) sources + how_many (is_asked tuning.rename) sources
named_count tuning [] = omega arith
named_count tuning (source ∷ sources) = grind (arith, common_steps, named_count tuning sources, or_count)

sum_is : (a b m n : ℕ) → a ≡ m → b ≡ n → a + b ≡ m + n
sum_is a b m n h k = omega arith

none_asked : {A : Type 0} (option : Asked A) (sources : List DsDef) → list_any (same_name option.0) (names sources) ≡ false → how_many (is_asked (Some option)) sources ≡ 0
none_asked option [] h = refl
none_asked option (source ∷ sources) h =
    let a = or_parts (same_name option.0 source.name) (list_any (same_name option.0) (names sources)) h in
    sum_is (cond (same_name option.0 source.name) 1 0) (how_many (is_asked (Some option)) sources) 0 0 (ap (λ b. cond {A = ℕ} b 1 0) a.0) (none_asked option sources a.1)

nothing_asked : (A : Type 0) (sources : List DsDef) → how_many (is_asked {A = A} None) sources ≡ 0
nothing_asked A [] = refl
nothing_asked A (source ∷ sources) = sum_is 0 (how_many (is_asked {A = A} None) sources) 0 0 refl (nothing_asked A sources)

asked_once : {A : Type 0} (option : Option (Asked A)) (sources : List DsDef) → is_double (names sources) ≡ false → how_many (is_asked option) sources ≤ 1
asked_once {A = A} None sources h = let e = nothing_asked A sources in omega arith
asked_once (Some option) [] h = omega arith
asked_once (Some option) (source ∷ sources) h =
    let a = or_parts (list_any (same_name source.name) (names sources)) (is_double (names sources)) h in
    ⊎_elim
    (λ (here : same_name option.0 source.name ≡ true).
    let none : how_many (is_asked (Some option)) sources ≡ 0 = none_asked option sources (ap (λ n. list_any (same_name n) (names sources)) (same_is option.0 source.name here) ∙ a.0) in
    grind arith)
    (λ (there : same_name option.0 source.name ≡ false). grind (arith, asked_once (Some option) sources a.1, sum_is))
    (cases_Bool (same_name option.0 source.name))

or_here : (a b : Bool) → a ≡ true → (a || b) ≡ true
or_here a b h = ap (λ x. x || b) h

or_there : (a b : Bool) → b ≡ true → (a || b) ≡ true
or_there a b h = grind arith

list_any_more : (p q : DsDef → Bool) (sources : List DsDef) → ((source : DsDef) → p source ≡ true → q source ≡ true) → list_any p sources ≡ true → list_any q sources ≡ true
list_any_more p q [] h k = k
list_any_more p q (source ∷ sources) h k =
    ⊎_elim
    (λ (here : p source ≡ true). or_here (q source) (list_any q sources) (h source here))
    (λ (there : p source ≡ false). or_there (q source) (list_any q sources) (list_any_more p q sources h (sym (ap (λ b. b || list_any p sources) there) ∙ k)))
    (cases_Bool (p source))

option_named : {A : Type 0} (sources : List DsDef) (option : Option (Asked A)) → names_no_source sources option ≡ false → (is_none option ≡ true) ⊎ (list_any (is_asked option) sources ≡ true)
option_named sources option h = grind (arith, list_any_more, same_itself, same_is, not-false)

some_named : (sources : List DsDef) (tuning : Tuning) → tuning.archive ≡ None → asks_nothing tuning ≡ false → (names_no_source sources tuning.heartbeat || names_no_source sources tuning.minimum || names_no_source sources tuning.maximum || names_no_source sources tuning.kind || names_no_source sources tuning.rename) ≡ false → list_any (is_named tuning) sources ≡ true
some_named sources tuning alone h k =
    let e = or_parts _ (names_no_source sources tuning.rename) k in
    let d = or_parts _ (names_no_source sources tuning.kind) e.0 in
    let c = or_parts _ (names_no_source sources tuning.maximum) d.0 in
    let b = or_parts (names_no_source sources tuning.heartbeat) (names_no_source sources tuning.minimum) c.0 in
    ⊎_elim (λ (n1 : is_none tuning.heartbeat ≡ true).
    ⊎_elim (λ (n2 : is_none tuning.minimum ≡ true).
    ⊎_elim (λ (n3 : is_none tuning.maximum ≡ true). grind (arith, is_none, both_ways, list_any_more, or_there, option_named, or_here))
    (λ (s : list_any (is_asked tuning.maximum) sources ≡ true). list_any_more (is_asked tuning.maximum) (is_named tuning) sources (λ source is. or_here _ (is_asked tuning.rename source) (or_here _ (is_asked tuning.kind source) (or_there _ (is_asked tuning.maximum source) is))) s)
    (option_named sources tuning.maximum c.1))
    (λ (s : list_any (is_asked tuning.minimum) sources ≡ true). list_any_more (is_asked tuning.minimum) (is_named tuning) sources (λ source is. or_here _ (is_asked tuning.rename source) (or_here _ (is_asked tuning.kind source) (or_here _ (is_asked tuning.maximum source) (or_there _ (is_asked tuning.minimum source) is)))) s)
    (option_named sources tuning.minimum b.1))
    (λ (s : list_any (is_asked tuning.heartbeat) sources ≡ true). list_any_more (is_asked tuning.heartbeat) (is_named tuning) sources (λ source is. or_here _ (is_asked tuning.rename source) (or_here _ (is_asked tuning.kind source) (or_here _ (is_asked tuning.maximum source) (or_here _ (is_asked tuning.minimum source) is)))) s)
    (option_named sources tuning.heartbeat b.0)

some_before : (tuning : Tuning) (number : ℕ) (sources : List DsDef) (raws : List Raw) → length raws ≡ length sources → list_any (is_named tuning) sources ≡ true → 0 < length (saved_sources tuning number sources raws)
some_before tuning number [] raws e h = absurd cc
some_before tuning number (source ∷ sources) [] e h = absurd (omega arith)
some_before tuning number (source ∷ sources) (raw ∷ raws) e h =
    cond_both (is_named tuning source) (record { number = number; source = source; raw = raw } ∷ saved_sources tuning (number + 1) sources raws) (saved_sources tuning (number + 1) sources raws) (λ olds. 0 < length olds)
    (λ here. omega arith)
    (λ there. some_before tuning (number + 1) sources raws (omega arith) (sym (ap (λ b. b || list_any (is_named tuning) sources) there) ∙ h))

tuned_fits : (base : Content) (tuning : Tuning) → tuning.archive ≡ None → IsValid base → verdict base (TuningBy tuning) ≡ None → FitsTune (content_listed base (Tuned (map (tuned tuning) base.sources) ∷ [])) (saved_sources tuning 0 base.sources base.raws)
unfolding content_listed
tuned_fits base tuning alone is h =
    let p = accepted_passes base (TuningBy tuning) h in
    let P : ℕ → Type 0 = λ limit. Rise 0 limit (saved_sources tuning 0 base.sources base.raws) in
    record {
      some = some_before tuning 0 base.sources base.raws (length-accepted base.sources base.raws is.raws_are) (some_named base.sources tuning alone p.0 p.1.1.0);
      few = omega (arith, before_count tuning 0 base.sources base.raws, named_count tuning base.sources, asked_once tuning.heartbeat base.sources is.names_differ, asked_once tuning.minimum base.sources is.names_differ, asked_once tuning.maximum base.sources is.names_differ, asked_once tuning.kind base.sources is.names_differ, asked_once tuning.rename base.sources is.names_differ);
      rise = subst P (sym (length-map base.sources (tuned tuning))) (subst P {x = 0 + length base.sources} {y = length base.sources} (omega arith) (before_rise tuning 0 0 base.sources base.raws (omega arith)));
    }

-- a tune's entry, or that of an archive that comes or goes
tune_fits : (base : Content) (tuning : Tuning) (archive : Option ArchiveTune) → tuning.archive ≡ archive → IsValid base → verdict base (TuningBy tuning) ≡ None → Fits (moved base (TuningBy tuning)) (option_map_or (archive_entry base) archive (TuneEntry (saved_sources tuning 0 base.sources base.raws)))
tune_fits base tuning None e is h =
    let olds = saved_sources tuning 0 base.sources base.raws in
    let es = Tuned (map (tuned tuning) base.sources) ∷ [] in
    subst (λ now. FitsTune now olds) (is_listed base es (base_of_valid base is) (length-map base.sources (tuned tuning), tt) tt ∙ sym (tune_alone base tuning e)) (tuned_fits base tuning e is h)
tune_fits base tuning (Some (Add def)) e is h = grind (arith, common_steps, tune_added)
tune_fits base tuning (Some (Remove number)) e is h =
    let n = length base.sources in
    let p = tune_passes base tuning (Some (Remove number)) e h in
    let archive = archive_at base.archives number in
    let there : number < length base.archives = omega (arith, leb-false (length (rows_of_archives base.archives)) number p.0, length-map base.archives (λ (a : Rra). a.def.rows)) in
    let this = All-at (IsValidArchive n (base.last / base.step)) base.archives number _ is.archives_are there in
    let fits : FitsRemoved (record base { archives = remove base.archives number }) number archive = record {
      there = omega (arith, there, length-remove base.archives number there);
      one_part_each = this.parts_are.one_each;
      rows_are = this.rows_are;
      one_cell_each = rows_wide n archive.rows this.each_row;
    } in
    subst (λ now. Fits now (RemovedEntry number archive)) (sym (tune_removed base tuning number (base_of_valid base is) e)) (refl, fits)

-- ---- a resize's entry

rows_at_all : (n steps index : ℕ) (archives : List Rra) → AllByRecursion (IsValidArchive n steps) archives → AllByRecursion (IsRow n) (rows_at archives index)
rows_at_all n steps index [] is = tt
rows_at_all n steps zero (archive ∷ archives) is = is.0.each_row
rows_at_all n steps (suc index) (archive ∷ archives) is = rows_at_all n steps index archives is.1

length-rows_at : (index : ℕ) (archives : List Rra) → AllByRecursion IsArchive archives → length (rows_at archives index) ≡ get_or (rows_of_archives archives) index 0
length-rows_at index [] is = refl
length-rows_at zero (archive ∷ archives) is = is.0.rows_are
length-rows_at (suc index) (archive ∷ archives) is = length-rows_at index archives is.1

changed_there : (new index : ℕ) (rows : List ℕ) → index < length rows → get_or (slice_set rows index new) index 0 ≡ new
changed_there new index [] h = absurd (omega arith)
changed_there new zero (row ∷ rows) h = refl
changed_there new (suc index) (row ∷ rows) h = changed_there new index rows (omega arith)

another : (change : Change) (old rows : ℕ) → (is_bad_rows present rows || grows_too_far present change old rows) ≡ false → shrinks_too_far change old rows ≡ false → old ≡ rows_changed change old rows → ⊥
another change old rows h k e = grind arith

resize_fits : (base : Content) (archive : ℕ) (change : Change) (rows : ℕ) → IsValid base → verdict base (Resizing archive change rows) ≡ None → Fits (moved_listed base (Resizing archive change rows)) (entry base (Resizing archive change rows))
unfolding content_listed
resize_fits base archive change rows is h =
    let command = Resizing archive change rows in
    let p = accepted_passes base command h in
    let settings = settings_of base in
    let old = get_or settings.rows archive 0 in
    let new = rows_changed change old rows in
    let after = moved_listed base command in
    let archives = after.archives in
    let count : length archives ≡ length base.archives = length-map (enumerate_from 0 base.archives) (archive_of base (events settings command)) ∙ length-enumerate_from 0 base.archives in
    let there : archive < length settings.rows = leb-false (length settings.rows) archive p.0 in
    let in_range : archive < length base.archives = omega (arith, length-map base.archives (λ (a : Rra). a.def.rows)) in
    let was : length (rows_at base.archives archive) ≡ old = length-rows_at archive base.archives (sound base is).is_base.archives_are in
    let is_now : length (rows_at archives archive) ≡ new
    = grind (arith, length-rows_at archive archives (listed_sound base command (sound base is) h).is_base.archives_are, listed_sound base command (sound base is) h, is_listed base (events settings command) (base_of_valid base is) (accepted_history base command h) tt, accepted_history base command h, settings_by_time base (events settings command), changed_there new archive settings.rows there) in
    grind (arith, rows_wide (length base.sources) (rows_at base.archives archive) (rows_at_all (length base.sources) (base.last / base.step) archive base.archives is.archives_are))

pub fits : (base : Content) (command : DatabaseChange) → IsValid base → verdict base command ≡ None → Fits (moved base command) (entry base command)
fits base (Updating update) is h = grind (arith, moved_is base (Updating update) (sound base is) h (sampled_keep (samples_of base.sources update)), sampled_keep (samples_of base.sources update), update_fits base update is h)
fits base (TuningBy tuning) is h = tune_fits base tuning tuning.archive refl is h
fits base (Resizing archive change rows) is h = grind (arith, moved_is base (Resizing archive change rows) (sound base is) h tt, resize_fits base archive change rows is h)

-- ---- the journal

journal_taken : (n : ℕ) (now : Content) (journal : List Entry) → IsValidJournal now journal → IsValidJournal now (take n journal)
journal_taken zero now journal h = tt
journal_taken (suc n) now [] h = tt
journal_taken (suc n) now (old ∷ journal) h = (h.0, h.1, journal_taken n (undone now old) journal h.2)

pub database_stays : (now : Content) (journal : List Entry) (command : DatabaseChange) → DatabaseStays now journal command
database_stays now journal command is h =
    let back = comes_back now command (sound now is.content_is) h in
    let P : Content → Type 0 = λ c. IsValid c in
    let J : Content → Type 0 = λ c. IsValidJournal c journal in
    let whole : IsValidJournal (moved now command) (entry now command ∷ journal) = (fits now command is.content_is h, subst P (sym back) is.content_is, subst J (sym back) is.journal_is) in
    grind (arith, common_steps, stays_valid, journal_taken, moved, moved_depth)

undo_all : (now : Content) (journal : List Entry) → IsValidJournal now journal → AllUndo now journal
undo_all now [] h = tt
undo_all now (old ∷ journal) h = (sound (undone now old) h.1, undone_depth now old, undo_all (undone now old) journal h.2)

pub revert_valid : (now : Content) (journal : List Entry) → IsValidDatabase now journal → let kept = reverted now journal in IsValidDatabase kept.content kept.journal
revert_valid now [] h = h
revert_valid now (old ∷ journal) h = record { content_is = h.journal_is.1; journal_is = h.journal_is.2; few = let same = undone_depth now old in omega (arith, h.few) }

pub revert_takes_back : (now : Content) (journal : List Entry) (command : DatabaseChange) → RevertTakesBack now journal command
revert_takes_back now journal command is h = grind (arith, moved now command, comes_back now command (sound now is.content_is) h)

step_valid : (kept : Stored) (action : Action) → IsValidDatabase kept.content kept.journal → let next = stored_after kept action in IsValidDatabase next.content next.journal
step_valid kept (Changed command) h =
    cond_both (is_accepted kept.content command) (changed kept command) kept (λ (next : Stored). IsValidDatabase next.content next.journal)
    (λ e. database_stays kept.content kept.journal command h (is_none-true (verdict kept.content command) e))
    (λ e. h)
step_valid kept Reverted h = revert_valid kept.content kept.journal h

run_valid : (actions : List Action) (kept : Stored) → IsValidDatabase kept.content kept.journal → let end = fold stored_after kept actions in IsValidDatabase end.content end.journal
run_valid [] kept h = h
run_valid (action ∷ actions) kept h = run_valid actions (stored_after kept action) (step_valid kept action h)

pub database_begins : (base : Content) (brought : List Entry) → Begins base brought
database_begins base brought is = runs_agree base brought [] (sound base is.content_is) (undo_all base brought is.journal_is) is.few

pub runs_stay : (base : Content) (brought : List Entry) (actions : List Action) → RunsStay base brought actions
runs_stay base brought actions is = record {
  stands = runs_agree base brought actions (sound base is.content_is) (undo_all base brought is.journal_is) is.few;
  valid = run_valid actions (record { content = base; journal = brought }) is;
}
