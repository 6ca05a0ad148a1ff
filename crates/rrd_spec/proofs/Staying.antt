-- An accepted command moves a valid content to a valid one.
use Rattle.std.specs.Prelude.{◌≡◌, ℕ, zero, suc, ◌+◌, ◌*◌, ◌/◌, ◌<◌, ◌≤◌, ◌^◌, true, false, not, ◌&&◌, ◌||◌, List, [], ◌∷◌, length, map, ℤ, ◌≤ℤ◌, unsigned_abs, Option, Some, None, int_le, sum, ◌++◌, drop, take}
use Rattle.rrd_spec.proofs.Names.{refl, sym, ◌∙◌, ap, subst, ltb, eqb, get_or, arith, le_z_yes, T, cond_both, ltb-true, ltb-false, or_parts, length-map, length-enumerate_from, fold, enumerate_from, list_any, AllByRecursion, option_map_or, unwrap_or, Raw, Kind, Gauge, Counter, Derive, Absolute, IsAccepted, Name, DsDef, Rra, Content, Event, Sampled, Tuned, Moment, moment_after, moment_of, moment_at_end, same_kind, raws_under, rows_after, seconds_of, IsHistory, KeepsArchives, archive_of, content_listed, Asked, DatabaseChange, Updating, TuningBy, Resizing, settings_of, settings_after, rows_of_archives, raw_of, value_for, sample_of, samples_of, asked, tuned, rows_changed, events, names, has_source, is_double, cells, Passes, is_bad_heartbeat, is_bad_rows, has_bad_bounds, grows_too_far, sample_checks, verdict, new_archive, All-append, All-drop, All-take, length_push, map-append, length-remove, ArchiveTune, Add, Remove, leb-false, moved, remove, IsSource, AreAccepted, IsRow, IsValidArchive, IsValid, StaysValid, base_of_valid, sound, Given, Sample, Update, Tuning, Change, same_name, is_good, present}
use Rattle.rrd_spec.specs.History.{Reading}
use Rattle.rrd_spec.proofs.HistoryLemmas.{length-sources}
use Rattle.rrd_spec.proofs.SampleLemmas.{rows_of_samples}
use Rattle.rrd_spec.proofs.Accepted.{accepted_passes, accepted_history, tune_passes}
use Rattle.rrd_spec.proofs.Moving.{moved_is, settings_by_time}
use Rattle.rrd_spec.proofs.ArchiveTunes.{fewer_removed, tune_added, tune_alone, tune_removed, valid_with}
use Rattle.rrd_spec.proofs.Created.{archive_valid}
use Rattle.rrd_spec.proofs.LivesPlain.{is_listed}
use Rattle.rrd_spec.proofs.Quiet.{seconds_none}
use Rattle.rrd_spec.proofs.Rates.{seconds_rows}
use Rattle.rrd_spec.proofs.Held.{LeavesGoodRows, parts_valid, archives_valid}
use Rattle.rrd_spec.proofs.NameLemmas.{names_differ, names_tuned}

-- ---- raw values

in_order : (a b : ℤ) → int_le a b ≡ true → a ≤ℤ b
in_order a b e = le_z_yes (subst T (sym e) tt)

raw_accepted : (kind : Kind) (given : Given) → IsAccepted kind (raw_of kind given)
raw_accepted kind Given.Unknown = tt
raw_accepted Gauge (Given.Number number) = cond_both (ltb (unsigned_abs number.millionths) (10 ^ 24)) (Some number.millionths) None (λ o. IsAccepted Gauge (option_map_or Raw.Known o Raw.Unknown)) (λ e. ltb-true _ _ e) (λ e. tt)
raw_accepted kind (Given.Number number) = grind arith

pub raws_accepted : (f : DsDef → Given) (sources : List DsDef) → AreAccepted sources (map (λ (source : DsDef). raw_of source.kind (f source)) sources)
raws_accepted f [] = tt
raws_accepted f (source ∷ sources) = (raw_accepted source.kind (f source), raws_accepted f sources)

kind_is : (a b : Kind) (raw : Raw) → same_kind a b ≡ true → IsAccepted a raw → IsAccepted b raw
kind_is Gauge Gauge raw e h = h
kind_is Counter Counter raw e h = h
kind_is Derive Derive raw e h = h
kind_is Absolute Absolute raw e h = h
kind_is Gauge b raw e h = grind arith
kind_is Counter b raw e h = grind arith
kind_is a b raw e h = grind arith

raws_tuned : (f : DsDef → DsDef) (sources : List DsDef) (raws : List Raw) → AreAccepted sources raws → AreAccepted (map f sources) (raws_under sources (map f sources) raws)
raws_tuned f [] [] h = tt
raws_tuned f (source ∷ sources) (raw ∷ raws) h = grind (arith, cond_both, kind_is, raws_tuned f sources raws h.1)
raws_tuned f x y h = absurd h

-- ---- the numbers of rows

same_rows : (base : Content) (es : List Event) (first : ℕ) (archives : List Rra) → ((index rows : ℕ) → fold (rows_after index) rows es ≡ rows) → rows_of_archives (map (archive_of base es) (enumerate_from first archives)) ≡ rows_of_archives archives
same_rows base es first [] h = refl
same_rows base es first (archive ∷ archives) h = let one = h first archive.def.rows in let rest = same_rows base es (first + 1) archives h in cc

-- ---- what the events must leave, beside preparations and rows

record Leaves (base : Content) (es : List Event) : Type 0 where
  history : IsHistory (moment_of base) es
  good_time : (moment_at_end base es).last ≤ 9999999999
  sources_are : AllByRecursion IsSource (moment_at_end base es).sources
  names_differ : is_double (names (moment_at_end base es).sources) ≡ false
  raws_are : AreAccepted (moment_at_end base es).sources (moment_at_end base es).raws
  seconds_are : AllByRecursion (IsRow (length base.sources)) (seconds_of base es)
  good_rows : LeavesGoodRows es
  few_cells : length (moment_at_end base es).sources * sum (rows_of_archives (map (archive_of base es) (enumerate_from 0 base.archives))) ≤ present.max_cells

left_valid : (base : Content) (es : List Event) → IsValid base → Leaves base es → IsValid (content_listed base es)
unfolding content_listed
left_valid base es is left =
    let end = moment_at_end base es in
    let as_many : length end.sources ≡ length base.sources = length-sources (moment_of base) es left.history in
    let count : length (map (archive_of base es) (enumerate_from 0 base.archives)) ≡ length base.archives = length-map (enumerate_from 0 base.archives) (archive_of base es) ∙ length-enumerate_from 0 base.archives in
    grind (arith, parts_valid, archives_valid)

below : (n : ℕ) (m : ℕ) → m ≡ n → n ≤ present.max_cells → m ≤ present.max_cells
below n m e h = omega arith

-- ---- an update

samples_accepted : (sources : List DsDef) (template : List Name) (readings : List Sample) → AllByRecursion (λ (sample : Reading). AreAccepted sources sample.raws) (map (sample_of sources template) readings)
samples_accepted sources template [] = tt
samples_accepted sources template (reading ∷ readings) = (raws_accepted (value_for template reading.values) sources, samples_accepted sources template readings)

pub end_sources : (now : Moment) (list : List Reading) → (fold moment_after now (map Sampled list)).sources ≡ now.sources
end_sources now [] = refl
end_sources now (sample ∷ list) = end_sources (moment_after now (Sampled sample)) list

end_raws : (now : Moment) (list : List Reading) → AreAccepted now.sources now.raws → AllByRecursion (λ (sample : Reading). AreAccepted now.sources sample.raws) list → AreAccepted (fold moment_after now (map Sampled list)).sources (fold moment_after now (map Sampled list)).raws
end_raws now [] a is = a
end_raws now (sample ∷ list) a is = end_raws (moment_after now (Sampled sample)) list is.0 is.1

end_time : (sources : List DsDef) (template : List Name) (now : Moment) (readings : List Sample) → AllByRecursion Passes (sample_checks present sources template now.last readings) → now.last ≤ 9999999999 → (fold moment_after now (map Sampled (map (sample_of sources template) readings))).last ≤ 9999999999
end_time sources template now [] p h = h
end_time sources template now (reading ∷ readings) p h = grind (arith, end_time sources template (moment_after now (Sampled (sample_of sources template reading))) readings p.1.1.1.1 (ltb-false 9999999999 reading.time p.0), ltb-false)

update_leaves : (base : Content) (update : Update) → IsValid base → verdict base (Updating update) ≡ None → Leaves base (events (settings_of base) (Updating update))
unfolding seconds_of
update_leaves base update is h =
    let template = unwrap_or update.template (names base.sources) in
    let list = samples_of base.sources update in
    let es = map Sampled list in
    let history = accepted_history base (Updating update) h in
    let accepted = samples_accepted base.sources template update.samples in
    let same = end_sources (moment_of base) list in
    let SP : List DsDef → Type 0 = λ sources. AllByRecursion IsSource sources in
    record {
      history = history;
      good_time = end_time base.sources template (moment_of base) update.samples (accepted_passes base (Updating update) h).1.1.1 is.good_time;
      sources_are = subst SP (sym same) is.sources_are;
      names_differ = ap (λ sources. is_double (names sources)) same ∙ is.names_differ;
      raws_are = end_raws (moment_of base) list is.raws_are accepted;
      seconds_are = seconds_rows (moment_of base) list is.raws_are accepted history;
      good_rows = λ index rows some few. rw (rows_of_samples index rows list) (some, few);
      few_cells = below (cells (settings_of base)) _ (ap (λ sources. length sources * sum (rows_of_archives (map (archive_of base es) (enumerate_from 0 base.archives)))) same ∙ ap (λ rows. length base.sources * sum rows) (same_rows base es 0 base.archives (λ index rows. rows_of_samples index rows list))) is.few_cells;
    }

-- ---- a tune

good_name : (rename : Option (Asked Name)) (name : Name) → option_map_or (λ (option : Asked Name). not (is_good option.1)) rename false ≡ false → is_good name ≡ true → is_good (asked rename name name) ≡ true
good_name rename name k h = grind arith

good_heartbeat : (heartbeat : Option (Asked ℕ)) (name : Name) (old : ℕ) → option_map_or (λ (option : Asked ℕ). is_bad_heartbeat present option.1) heartbeat false ≡ false → is_bad_heartbeat present old ≡ false → is_bad_heartbeat present (asked heartbeat name old) ≡ false
good_heartbeat heartbeat name old k h = grind arith

tuned_sources : (tuning : Tuning) (sources : List DsDef) → option_map_or (λ (option : Asked Name). not (is_good option.1)) tuning.rename false ≡ false → option_map_or (λ (option : Asked ℕ). is_bad_heartbeat present option.1) tuning.heartbeat false ≡ false → list_any (λ (source : DsDef). has_bad_bounds present (tuned tuning source)) sources ≡ false → AllByRecursion IsSource sources → AllByRecursion IsSource (map (tuned tuning) sources)
tuned_sources tuning [] a b c is = tt
tuned_sources tuning (source ∷ sources) a b c is =
    let d = or_parts (has_bad_bounds present (tuned tuning source)) (list_any (λ (source : DsDef). has_bad_bounds present (tuned tuning source)) sources) c in (
      record {
        good_name = good_name tuning.rename source.name a is.0.good_name;
        good_heartbeat = good_heartbeat tuning.heartbeat source.name source.heartbeat b is.0.good_heartbeat;
        good_bounds = d.0;
      },
      tuned_sources tuning sources a b d.1 is.1,
    )

tune_leaves : (base : Content) (tuning : Tuning) → IsValid base → verdict base (TuningBy tuning) ≡ None → Leaves base (Tuned (map (tuned tuning) base.sources) ∷ [])
tune_leaves base tuning is h =
    let es = Tuned (map (tuned tuning) base.sources) ∷ [] in
    let p = accepted_passes base (TuningBy tuning) h in
    let f = λ (option : Asked Name). not (same_name option.0 option.1) && has_source base.sources option.1 in
    let free = λ (option : Asked Name) (e : tuning.rename ≡ Some option). sym (ap (λ r. option_map_or f r false) e) ∙ p.1.1.1.1.0 in
    let SP : List (List _) → Type 0 = λ rows. AllByRecursion (IsRow (length base.sources)) rows in
    record {
      history = (length-map base.sources (tuned tuning), tt);
      good_time = is.good_time;
      sources_are = tuned_sources tuning base.sources p.1.1.1.0 p.1.1.1.1.1.0 p.1.1.1.1.1.1.0 is.sources_are;
      names_differ = ap is_double (names_tuned tuning base.sources) ∙ names_differ tuning.rename base.sources is.names_differ free;
      raws_are = raws_tuned (tuned tuning) base.sources base.raws is.raws_are;
      seconds_are = subst SP (sym (seconds_none base es refl)) tt;
      good_rows = λ index rows some few. (some, few);
      few_cells = below (cells (settings_of base)) _ (ap (λ n. n * sum (rows_of_archives (map (archive_of base es) (enumerate_from 0 base.archives)))) (length-map base.sources (tuned tuning)) ∙ ap (λ rows. length base.sources * sum rows) (same_rows base es 0 base.archives (λ index rows. refl))) is.few_cells;
    }

-- ---- a resize

pub few_rows_at : (sources steps index : ℕ) (archives : List Rra) → AllByRecursion (IsValidArchive sources steps) archives → get_or (rows_of_archives archives) index 0 ≤ 1000000
few_rows_at sources steps index [] is = omega arith
few_rows_at sources steps zero (archive ∷ archives) is = is.0.few_rows
few_rows_at sources steps (suc index) (archive ∷ archives) is = few_rows_at sources steps index archives is.1

pub few_changed : (change : Change) (old rows : ℕ) → old ≤ 1000000 → (is_bad_rows present rows || grows_too_far present change old rows) ≡ false → rows_changed change old rows ≤ 1000000
few_changed change old rows h k = grind arith

resize_leaves : (base : Content) (archive : ℕ) (change : Change) (rows : ℕ) → IsValid base → verdict base (Resizing archive change rows) ≡ None → Leaves base (events (settings_of base) (Resizing archive change rows))
unfolding content_listed
resize_leaves base archive change rows is h =
    let command = Resizing archive change rows in
    let settings = settings_of base in
    let old = get_or settings.rows archive 0 in
    let new = rows_changed change old rows in
    let es = events settings command in
    let p = accepted_passes base command h in
    let history = accepted_history base command h in
    let few_new = few_changed change old rows (few_rows_at (length base.sources) (base.last / base.step) archive base.archives is.archives_are) p.1.0 in
    let SP : List (List _) → Type 0 = λ rows. AllByRecursion (IsRow (length base.sources)) rows in
    record {
      history = history;
      good_time = is.good_time;
      sources_are = is.sources_are;
      names_differ = is.names_differ;
      raws_are = is.raws_are;
      seconds_are = subst SP (sym (seconds_none base es refl)) tt;
      good_rows = λ index there some few. cond_both (eqb archive index) new there (λ n. (0 < n) × (n ≤ 1000000)) (λ e. (history.0, few_new)) (λ e. (some, few));
      few_cells = below (cells (fold settings_after settings es)) _ (ap cells (ap settings_of (is_listed base es (base_of_valid base is) history tt) ∙ settings_by_time base es)) (ltb-false present.max_cells (cells (fold settings_after settings es)) p.1.1.1.0);
    }

-- ---- what is valid stays so

pub sampled_keep : (list : List Reading) → KeepsArchives (map Sampled list)
sampled_keep [] = tt
sampled_keep (reading ∷ list) = sampled_keep list

-- as it is with other archives
tuned_valid : (base : Content) (tuning : Tuning) (archive : Option ArchiveTune) → tuning.archive ≡ archive → IsValid base → verdict base (TuningBy tuning) ≡ None → IsValid (moved base (TuningBy tuning))
tuned_valid base tuning None e is h =
    let es = Tuned (map (tuned tuning) base.sources) ∷ [] in
    subst IsValid (is_listed base es (base_of_valid base is) (length-map base.sources (tuned tuning), tt) tt ∙ sym (tune_alone base tuning e)) (left_valid base es is (tune_leaves base tuning is h))
tuned_valid base tuning (Some (Add def)) e is h =
    let n = length base.sources in
    let rows = rows_of_archives base.archives in
    let new = new_archive n def in
    let p = tune_passes base tuning (Some (Add def)) e h in
    let small = or_parts (ltb present.max_archives (length (rows ++ def.rows ∷ []))) (ltb present.max_cells (n * sum (rows ++ def.rows ∷ []))) p.1.1.1.0 in
    let few = ltb-false present.max_archives (length (rows ++ def.rows ∷ [])) small.0 in
    let as_many : length rows ≡ length base.archives = length-map base.archives (λ (a : Rra). a.def.rows) in
    let same : rows_of_archives (base.archives ++ new ∷ []) ≡ rows ++ def.rows ∷ [] = map-append (λ (a : Rra). a.def.rows) base.archives (new ∷ []) in
    subst IsValid (sym (tune_added base tuning def (base_of_valid base is) e h))
    (valid_with present base (base.archives ++ new ∷ []) is
    (omega (arith, length_push base.archives new))
    (omega (arith, length_push base.archives new, length_push rows def.rows, few, as_many))
    (subst (λ (all : List ℕ). n * sum all ≤ present.max_cells) (sym same) (ltb-false present.max_cells (n * sum (rows ++ def.rows ∷ [])) small.1))
    (All-append (IsValidArchive n (base.last / base.step)) base.archives (new ∷ []) is.archives_are (archive_valid n (base.last / base.step) def p.0 p.1.0 p.1.1.0, tt)))
tuned_valid base tuning (Some (Remove number)) e is h =
    let n = length base.sources in
    let rows = rows_of_archives base.archives in
    let p = tune_passes base tuning (Some (Remove number)) e h in
    let as_many : length rows ≡ length base.archives = length-map base.archives (λ (a : Rra). a.def.rows) in
    let there : number < length base.archives = omega (arith, leb-false (length rows) number p.0, as_many) in
    let two : 1 < length base.archives = omega (arith, leb-false (length rows) 1 p.1.0, as_many) in
    let P = IsValidArchive n (base.last / base.step) in
    let count = length-remove base.archives number there in
    subst IsValid (sym (tune_removed base tuning number (base_of_valid base is) e))
    (valid_with present base (remove base.archives number) is
    (omega (arith, count, two))
    (omega (arith, count, is.few_archives))
    (fewer_removed n present.max_cells base.archives number is.few_cells)
    (All-append P (take number base.archives) (drop (suc number) base.archives) (All-take P number base.archives is.archives_are) (All-drop P (suc number) base.archives is.archives_are)))

pub stays_valid : (base : Content) (command : DatabaseChange) → StaysValid base command
stays_valid base (Updating update) is h = grind (arith, moved_is base (Updating update) (sound base is) h (sampled_keep (samples_of base.sources update)), sampled_keep (samples_of base.sources update), left_valid base (events (settings_of base) (Updating update)) is (update_leaves base update is h), update_leaves base update is h)
stays_valid base (TuningBy tuning) is h = tuned_valid base tuning tuning.archive refl is h
stays_valid base (Resizing archive change rows) is h =
    subst IsValid (moved_is base (Resizing archive change rows) (sound base is) h tt) (left_valid base (events (settings_of base) (Resizing archive change rows)) is (resize_leaves base archive change rows is h))
