-- What undoes a command.
use Rattle.std.specs.Prelude.{◌≡◌, ℕ, zero, suc, ◌+◌, ◌<◌, min, true, false, cond, List, [], ◌∷◌, ◌++◌, length, map, take, Option, Some, None, ℤ}
use Rattle.rrd_spec.proofs.Names.{common_steps, refl, sym, ◌∙◌, ap, arith, append_assoc, ⊎_elim, or_parts, cases_Bool, leb-false, set_at, length_push, length-take, length-map, fold, enumerate_from, AllByRecursion, Raw, Kind, Name, DsDef, Rra, Sampled, Resized, moment_of, moment_at_end, same_kind, raws_under, rows_after, IsHistory, IsArchive, rows_of, row_parts_of, kept_rows, archive_of, content_listed, moved_listed, DatabaseChange, Updating, TuningBy, Resizing, settings_of, samples_of, tuned, verdict, RemovedEntry, TuneEntry, archive_at, archive_entry, rows_between, saved, is_named, saved_sources, rows_at, put_back, put_back_each, with_source, with_rows_at, entry, undone, IsSound, ComesBack, new_archive, moved, ArchiveTune, Add, Remove, option_map_or, Content, Tuning, Update, Change}
use Rattle.rrd_spec.specs.History.{Reading}
use Rattle.rrd_spec.proofs.ContentLemmas.{length-rows_of, length-kept_rows}
use Rattle.rrd_spec.proofs.SampleLemmas.{rows_of_samples, update_undone}
use Rattle.rrd_spec.proofs.Accepted.{accepted_passes, accepted_history, tune_passes}
use Rattle.rrd_spec.proofs.ArchiveTunes.{put_in_again, tune_added, tune_removed, without_added}
use Rattle.rrd_spec.proofs.Changing.{tune_changes}
use Rattle.rrd_spec.proofs.Staying.{end_sources, sampled_keep}
use Rattle.rrd_spec.proofs.Moving.{moved_is}
use Rattle.rrd_spec.proofs.Quiet.{made, with_all, resized_other, resized_elsewhere, content_resized, row_parts_same}

-- ---- an update

archive_back : (base : Content) (index : ℕ) (archive : Rra) (samples : List Reading) → 0 < base.step → IsArchive archive → IsHistory (moment_of base) (map Sampled samples) → put_back (archive_of base (map Sampled samples) (index, archive)) (saved base.step base.last (moment_at_end base (map Sampled samples)).last archive) ≡ archive
unfolding made
archive_back base index archive samples some is h =
    let es = map Sampled samples in
    let new = rows_of base archive es in
    let f = rows_between base.step archive.def base.last ((moment_at_end base es).last) in
    let r = length archive.rows in
    let kept = kept_rows base index archive es in
    let m = min f r in
    let old = take m archive.rows in
    let finished : f ≡ length new = let e = length-rows_of base archive es some is.some_steps h in omega arith in
    let defs : fold (rows_after index) archive.def.rows es ≡ archive.def.rows = rows_of_samples index archive.def.rows samples in
    let count : length kept ≡ r = length-kept_rows base index archive es some is h ∙ defs ∙ sym is.rows_are in
    let few : length old ≡ m = let e = length-take m archive.rows in omega arith in
    grind (arith, update_undone, made)

archives_back : (base : Content) (index : ℕ) (archives : List Rra) (samples : List Reading) → 0 < base.step → AllByRecursion IsArchive archives → IsHistory (moment_of base) (map Sampled samples) → put_back_each (map (archive_of base (map Sampled samples)) (enumerate_from index archives)) (map (saved base.step base.last (moment_at_end base (map Sampled samples)).last) archives) ≡ archives
archives_back base index [] samples some is h = refl
archives_back base index (archive ∷ archives) samples some is h = grind (arith, archive_back, archives_back base (index + 1) archives samples some is.1 h)

-- an accepted command is undone by its entry, where the content is said by list
abbrev ListedBack : Content → DatabaseChange → Type 0
ListedBack base command = IsSound base → verdict base command ≡ None → undone (moved_listed base command) (entry base command) ≡ base

update_back : (base : Content) (update : Update) → ListedBack base (Updating update)
unfolding content_listed with_all
update_back base update sound h =
    let samples = samples_of base.sources update in
    let archives = put_back_each (map (archive_of base (map Sampled samples)) (enumerate_from 0 base.archives)) (map (saved base.step base.last (moment_at_end base (map Sampled samples)).last) base.archives) in
    ap (λ sources. with_all base sources base.last base.raws base.parts archives) (end_sources (moment_of base) samples)
    ∙ ap (with_all base base.sources base.last base.raws base.parts) (archives_back base 0 base.archives samples sound.is_base.some_step sound.is_base.archives_are (accepted_history base (Updating update) h))

-- ---- a tune

source_with : Name → Kind → ℕ → Option ℤ → Option ℤ → DsDef
source_with name kind heartbeat min max = record { name = name; kind = kind; heartbeat = heartbeat; min = min; max = max }

not_named : (tuning : Tuning) (source : DsDef) → is_named tuning source ≡ false → tuned tuning source ≡ source
unfolding source_with
not_named tuning source h = grind (arith, or_parts)

with_sources : Content → List DsDef → List Raw → Content
with_sources base sources raws = record base { sources = sources; raws = raws }

sources_back : (base : Content) (tuning : Tuning) (number : ℕ) (done : List DsDef) (done_raws : List Raw) (sources : List DsDef) (raws : List Raw) → length done ≡ number → length done_raws ≡ number → length raws ≡ length sources → fold with_source (with_sources base (done ++ map (tuned tuning) sources) (done_raws ++ raws_under sources (map (tuned tuning) sources) raws)) (saved_sources tuning number sources raws) ≡ with_sources base (done ++ sources) (done_raws ++ raws)
unfolding with_sources
sources_back base tuning number done done_raws [] raws d r e = refl
sources_back base tuning number done done_raws (source ∷ sources) [] d r e = absurd (omega arith)
sources_back base tuning number done done_raws (source ∷ sources) (raw ∷ raws) d r e =
    let news = map (tuned tuning) sources in
    let new_raws = raws_under sources news raws in
    let source_now = tuned tuning source in
    let raw_now = cond (same_kind source.kind source_now.kind) raw Raw.Unknown in
    let rest = saved_sources tuning (number + 1) sources raws in
    let on = sources_back base tuning (number + 1) (done ++ source ∷ []) (done_raws ++ raw ∷ []) sources raws (length_push done source ∙ ap (λ n. n + 1) d) (length_push done_raws raw ∙ ap (λ n. n + 1) r) (omega arith) in
    let before : with_sources base (done ++ source ∷ news) (done_raws ++ raw ∷ new_raws) ≡ with_sources base ((done ++ source ∷ []) ++ news) ((done_raws ++ raw ∷ []) ++ new_raws)
    = ap (λ s. with_sources base s (done_raws ++ raw ∷ new_raws)) (sym (append_assoc done (source ∷ []) news)) ∙ ap (with_sources base ((done ++ source ∷ []) ++ news)) (sym (append_assoc done_raws (raw ∷ []) new_raws)) in
    let after : with_sources base ((done ++ source ∷ []) ++ sources) ((done_raws ++ raw ∷ []) ++ raws) ≡ with_sources base (done ++ source ∷ sources) (done_raws ++ raw ∷ raws)
    = ap (λ s. with_sources base s ((done_raws ++ raw ∷ []) ++ raws)) (append_assoc done (source ∷ []) sources) ∙ ap (with_sources base (done ++ source ∷ sources)) (append_assoc done_raws (raw ∷ []) raws) in
    let go_on : fold with_source (with_sources base (done ++ source ∷ news) (done_raws ++ raw ∷ new_raws)) rest ≡ with_sources base (done ++ source ∷ sources) (done_raws ++ raw ∷ raws)
    = ap (λ now. fold with_source now rest) before ∙ on ∙ after in
    ⊎_elim
    (λ (named : is_named tuning source ≡ true). grind (arith, set_at))
    (λ (other : is_named tuning source ≡ false). grind (arith, not_named))
    (cases_Bool (is_named tuning source))

-- other settings, or an archive that comes or goes
tuned_back : (base : Content) (tuning : Tuning) (archive : Option ArchiveTune) → tuning.archive ≡ archive → IsSound base → verdict base (TuningBy tuning) ≡ None → undone (moved base (TuningBy tuning)) (option_map_or (archive_entry base) archive (TuneEntry (saved_sources tuning 0 base.sources base.raws))) ≡ base
unfolding with_sources
tuned_back base tuning None e sound h = cc (tune_changes base tuning sound.is_base e, sources_back base tuning 0 [] [] base.sources base.raws refl refl sound.one_raw_each)
tuned_back base tuning (Some (Add def)) e sound h = grind (arith, tune_added base tuning def sound.is_base e h, without_added base.archives (new_archive (length base.sources) def))
tuned_back base tuning (Some (Remove number)) e sound h =
    let p = tune_passes base tuning (Some (Remove number)) e h in
    let there : number < length base.archives = omega (arith, leb-false (length (settings_of base).rows) number p.0, length-map base.archives (λ (a : Rra). a.def.rows)) in
    ap (λ now. undone now (RemovedEntry number (archive_at base.archives number))) (tune_removed base tuning number sound.is_base e)
    ∙ ap (λ archives. let x : Content = record base { archives = archives } in x) (put_in_again base.archives number _ there)

-- ---- a resize

resized_here : (base : Content) (at rows first : ℕ) (archive : Rra) → at ≡ first → IsArchive archive → let new = archive_of base (Resized at rows ∷ []) (first, archive) in made new (length archive.rows) new.parts archive.rows ≡ archive
unfolding made
resized_here base at rows first archive e is =
    ap (λ n. made archive n (row_parts_of base archive (Resized at rows ∷ [])) archive.rows) is.rows_are
    ∙ ap (λ ps. made archive archive.def.rows ps archive.rows) (row_parts_same base (Resized at rows ∷ []) refl archive is.some_steps)

archives_resized_back : (base : Content) (at rows first index : ℕ) (archives : List Rra) → at ≡ first + index → AllByRecursion IsArchive archives → index < length archives → with_rows_at (map (archive_of base (Resized at rows ∷ [])) (enumerate_from first archives)) index (rows_at archives index) ≡ archives
unfolding made
archives_resized_back base at rows first index [] e is h = absurd (omega arith)
archives_resized_back base at rows first zero (archive ∷ archives) e is h =
    let one = resized_here base at rows first archive (omega arith) is.0 in
    grind (arith, common_steps, resized_elsewhere)
archives_resized_back base at rows first (suc index) (archive ∷ archives) e is h =
    let one = resized_other base at rows first archive (λ k. absurd (omega arith)) is.0 in
    let rest = archives_resized_back base at rows (first + 1) index archives (omega arith) is.1 (omega arith) in
    cc

with_archives : Content → List Rra → Content
with_archives base archives = record base { archives = archives }

resize_back : (base : Content) (archive : ℕ) (change : Change) (rows : ℕ) → ListedBack base (Resizing archive change rows)
unfolding with_archives
resize_back base archive change rows sound h =
    let p = accepted_passes base (Resizing archive change rows) h in
    grind (arith, common_steps, leb-false, content_resized, archives_resized_back)

pub comes_back : (base : Content) (command : DatabaseChange) → ComesBack base command
comes_back base (Updating update) sound h = cc (moved_is base (Updating update) sound h (sampled_keep (samples_of base.sources update)), update_back base update sound h)
comes_back base (TuningBy tuning) sound h = tuned_back base tuning tuning.archive refl sound h
comes_back base (Resizing archive change rows) sound h = cc (moved_is base (Resizing archive change rows) sound h tt, resize_back base archive change rows sound h)
