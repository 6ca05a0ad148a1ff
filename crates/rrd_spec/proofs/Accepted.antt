-- What an accepted command is known to be.
use Rattle.std.specs.Prelude.{◌≡◌, ℕ, suc, ◌<◌, Bool, false, cond, ◌||◌, List, [], ◌∷◌, length, map, Option, Some, None}
use Rattle.rrd_spec.proofs.Names.{common_steps, refl, sym, ◌∙◌, ap, subst, arith, get_or, length-map, fold, AllByRecursion, unwrap_or, Raw, Name, DsDef, Content, Sampled, Tuned, Moment, moment_after, moment_of, moment_at_end, raws_under, IsHistory, DatabaseChange, Updating, TuningBy, Resizing, archive_event, settings_of, sample_of, tuned, rows_changed, events, Settings, names, option_map_or, RraDef, Tuning, ArchiveTune, Add, Check, archive_tune_checks, first_refusal, is_bad_rows, grows_too_far, shrinks_too_far, checks, verdict, verdict_within, readings_rise, Passes, Sample, Change, Refusal, present}

-- ---- every check passes

by_case : (b : Bool) (refusal : Refusal) (later : Option Refusal) → cond b (Some refusal) later ≡ None → (b ≡ false) × (later ≡ None)
by_case b refusal later h = grind arith

pub all_pass : (list : List Check) → first_refusal list ≡ None → AllByRecursion Passes list
all_pass [] h = tt
all_pass (check ∷ list) h = let this = by_case check.wrong check.refusal (first_refusal list) h in (this.0, all_pass list this.1)

pub accepted_passes : (base : Content) (command : DatabaseChange) → verdict base command ≡ None → AllByRecursion Passes (checks present base command)
unfolding verdict_within
accepted_passes base command h = all_pass (checks present base command) h

-- ---- its events are a history

pub some_rows : (change : Change) (old rows : ℕ) → (is_bad_rows present rows || grows_too_far present change old rows) ≡ false → shrinks_too_far change old rows ≡ false → 0 < rows_changed change old rows
some_rows change old rows h k = grind arith

-- an archive's settings that pass have a step and a row
pub some_of_archive : (settings : Settings) (def : RraDef) → AllByRecursion Passes (archive_tune_checks present settings (Some (Add def))) → (0 < def.steps) × (0 < def.rows)
some_of_archive settings def p = grind arith

archive_history : (settings : Settings) (now : Moment) (sources : List DsDef) (archive : Option ArchiveTune) → length sources ≡ length now.sources → AllByRecursion Passes (archive_tune_checks present settings archive) → IsHistory now (option_map_or archive_event archive (Tuned sources) ∷ [])
archive_history settings now sources archive e p = grind arith

-- what comes or goes, or the sources' new settings
pub tune_passes : (base : Content) (tuning : Tuning) (archive : Option ArchiveTune) → tuning.archive ≡ archive → verdict base (TuningBy tuning) ≡ None → AllByRecursion Passes (archive_tune_checks present (settings_of base) archive)
tune_passes base tuning archive e h = subst (λ a. AllByRecursion Passes (archive_tune_checks present (settings_of base) a)) e (accepted_passes base (TuningBy tuning) h).1.1.1.1.1.1.1

pub accepted_history : (base : Content) (command : DatabaseChange) → verdict base command ≡ None → IsHistory (moment_of base) (events (settings_of base) command)
accepted_history base (Updating update) h =
    readings_rise base.sources (unwrap_or update.template (names base.sources)) (moment_of base) update.samples (accepted_passes base (Updating update) h).1.1.1
accepted_history base (TuningBy tuning) h =
    archive_history (settings_of base) (moment_of base) (map (tuned tuning) base.sources) tuning.archive (length-map base.sources (tuned tuning)) (accepted_passes base (TuningBy tuning) h).1.1.1.1.1.1.1
accepted_history base (Resizing archive change rows) h =
    let p = accepted_passes base (Resizing archive change rows) h in
    (some_rows change (get_or (settings_of base).rows archive 0) rows p.1.0 p.1.1.0, tt)

-- ---- a raw value for each source stays

length-raws_under : (olds news : List DsDef) (raws : List Raw) → length (raws_under olds news raws) ≡ length raws
length-raws_under [] news raws = refl
length-raws_under (old ∷ olds) [] raws = refl
length-raws_under (old ∷ olds) (new ∷ news) [] = refl
length-raws_under (old ∷ olds) (new ∷ news) (raw ∷ raws) = ap suc (length-raws_under olds news raws)

readings_raws : (sources : List DsDef) (template : List Name) (now : Moment) (readings : List Sample) → now.sources ≡ sources → length now.raws ≡ length sources → let end = fold moment_after now (map Sampled (map (sample_of sources template) readings)) in length end.raws ≡ length end.sources
readings_raws sources template now [] same each = each ∙ ap length (sym same)
readings_raws sources template now (reading ∷ readings) same each = grind (arith, readings_raws sources template (moment_after now (Sampled (sample_of sources template reading))) readings same (length-map sources _))

pub command_raws : (base : Content) (command : DatabaseChange) → length base.raws ≡ length base.sources → let end = moment_at_end base (events (settings_of base) command) in length end.raws ≡ length end.sources
command_raws base (Updating update) each = readings_raws base.sources (unwrap_or update.template (names base.sources)) (moment_of base) update.samples refl each
command_raws base (TuningBy tuning) each = grind (arith, common_steps, length-raws_under)
command_raws base (Resizing archive change rows) each = each
