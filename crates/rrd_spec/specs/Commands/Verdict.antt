-- Definition: which commands are accepted, and the refusals of the others. The checks are those of rrdupdate, rrdtune
-- and rrdresize; the limits and the order of the checks are this project's.
use Rattle.std.specs.Prelude.{ℕ, ◌+◌, ℤ, pos, int_lt, unsigned_abs, nat_lt, nat_le, ◌==◌, if◌then◌else◌, Bool, true, false, not, ◌&&◌, ◌||◌, Option, Some, None, is_none, List, [], ◌∷◌, ◌++◌, length, slice_index_or}
use Rattle.rrd_spec.specs.Names.{fold, list_any, list_all, option_map_or, unwrap_or, Name, is_good, same_name, admit}
use Rattle.rrd_spec.specs.declared.settings.DsDef.{DsDef}
use Rattle.rrd_spec.specs.declared.refusal.Refusal.{Refusal}
use Rattle.rrd_spec.specs.declared.refusal.Refusal.TheVariants.{BadName, DoubleName, BadHeartbeat, BadBounds, BadRows, TooLarge, NoSuchSource, WrongCount, BadValue, NotLater, NoSample, NothingToTune, NoSuchArchive, ShrinkTooFar, BadTime, MixedTune, BadXff, BadSteps, NoArchive}
use Rattle.rrd_spec.specs.declared.requests.update.Given.{Given}
use Rattle.rrd_spec.specs.declared.requests.update.Sample.{Sample}
use Rattle.rrd_spec.specs.declared.requests.update.Update.{Update}
use Rattle.rrd_spec.specs.declared.requests.tune.Tuning.{Tuning}
use Rattle.rrd_spec.specs.declared.requests.tune.ArchiveTune.{ArchiveTune}
use Rattle.rrd_spec.specs.declared.requests.tune.ArchiveTune.TheVariants.{Add, Remove}
use Rattle.rrd_spec.specs.declared.requests.resize.Change.{Change}
use Rattle.rrd_spec.specs.declared.requests.resize.Change.TheVariants.{Grow, Shrink}
use Rattle.rrd_spec.specs.Limits.{Limits, present}
use Rattle.rrd_spec.specs.History.{Content}
use Rattle.rrd_spec.specs.Commands.{Asked, DatabaseChange, Updating, TuningBy, Resizing, settings_of, settings_after, archive_event, events, value_for, tuned}
use Rattle.rrd_spec.specs.Settings.{Settings, names, cells, has_source, is_double}

-- a check: whether something is wrong, and the refusal for it
pub record Check : Type 0 where
  pub wrong : Bool
  pub refusal : Refusal

abbrev pub ◌refuses◌ : Bool → Refusal → Check
◌refuses◌ wrong refusal = record { wrong = wrong; refusal = refusal }

-- the refusal of the first check that fails
abbrev pub first_refusal : List Check → Option Refusal
first_refusal [] = None
first_refusal (check ∷ checks) = if check.wrong then Some check.refusal else first_refusal checks

-- ---- names and settings

-- a bound with an absolute value above the maximum rate
abbrev pub is_far : Limits → Option ℤ → Bool
is_far limits None = false
is_far limits (Some bound) = nat_lt limits.max_bound (unsigned_abs bound)

abbrev pub is_crossed : Option ℤ → Option ℤ → Bool
is_crossed (Some min) (Some max) = int_lt max min
is_crossed None max = false
is_crossed (Some min) None = false

abbrev pub has_bad_bounds : Limits → DsDef → Bool
has_bad_bounds limits source = is_far limits source.min || is_far limits source.max || is_crossed source.min source.max

-- a number that is not from 1 to the maximum
abbrev pub is_out : ℕ → ℕ → Bool
is_out greatest number = (number == 0) || nat_lt greatest number

abbrev pub is_bad_heartbeat : Limits → ℕ → Bool
is_bad_heartbeat limits seconds = is_out limits.max_heartbeat seconds

abbrev pub is_bad_rows : Limits → ℕ → Bool
is_bad_rows limits rows = is_out limits.max_rows rows

-- a share that is not from 0 to the maximum
abbrev pub is_bad_xff : Limits → ℤ → Bool
is_bad_xff limits xff = int_lt xff (pos 0) || int_lt (pos limits.max_xff) xff

abbrev pub is_bad_steps : Limits → ℕ → Bool
is_bad_steps limits steps = is_out limits.max_steps_per_row steps

-- ---- the checks of each command

abbrev pub is_admitted : DsDef → Given → Bool
is_admitted source Given.Unknown = true
is_admitted source (Given.Number number) = not (is_none (admit source.kind number))

-- the checks of samples after earlier ones, the newest of which has the time `last`
abbrev pub sample_checks : Limits → List DsDef → List Name → ℕ → List Sample → List Check
sample_checks limits sources template last [] = []
sample_checks limits sources template last (sample ∷ samples) =
    ◌refuses◌ (nat_lt limits.max_time sample.time) BadTime
    ∷ ◌refuses◌ (nat_le sample.time last) (NotLater last)
    ∷ ◌refuses◌ (not (length sample.values == length template)) WrongCount
    ∷ ◌refuses◌
    (not (list_all (λ (source : DsDef). is_admitted source (value_for template sample.values source)) sources))
    BadValue
    ∷ sample_checks limits sources template sample.time samples

abbrev pub no_sample : List Sample → Bool
no_sample [] = true
no_sample (sample ∷ samples) = false

-- the names that the values belong to: the template, or the names of all data sources in order
abbrev pub template_of : List DsDef → Option (List Name) → List Name
template_of sources template = unwrap_or template (names sources)

abbrev pub template_checks : List DsDef → Option (List Name) → List Check
template_checks sources template =
    ◌refuses◌ (option_map_or (list_any (λ (name : Name). not (has_source sources name))) template false) NoSuchSource
    ∷ ◌refuses◌ (option_map_or is_double template false) DoubleName
    ∷ []

abbrev pub update_checks : Limits → List DsDef → ℕ → Update → List Check
update_checks limits sources last update =
    template_checks sources update.template
    ++ ◌refuses◌ (no_sample update.samples) NoSample
    ∷ sample_checks limits sources (template_of sources update.template) last update.samples

abbrev pub names_no_source : {A : Type 0} → List DsDef → Option (Asked A) → Bool
names_no_source sources None = false
names_no_source sources (Some option) = not (has_source sources option.0)

-- a tune has no option
abbrev pub has_no_option : Tuning → Bool
has_no_option tuning =
    is_none tuning.heartbeat
    && is_none tuning.minimum
    && is_none tuning.maximum
    && is_none tuning.kind
    && is_none tuning.rename

abbrev pub asks_nothing : Tuning → Bool
asks_nothing tuning = has_no_option tuning && is_none tuning.archive

-- a tune has an archive and another option
abbrev pub is_mixed : Tuning → Bool
is_mixed tuning = not (has_no_option tuning) && not (is_none tuning.archive)

-- an option names no data source
abbrev pub any_names_no_source : List DsDef → Tuning → Bool
any_names_no_source sources tuning =
    names_no_source sources tuning.heartbeat
    || names_no_source sources tuning.minimum
    || names_no_source sources tuning.maximum
    || names_no_source sources tuning.kind
    || names_no_source sources tuning.rename

abbrev pub asks_bad_name : Tuning → Bool
asks_bad_name tuning = option_map_or (λ (option : Asked Name). not (is_good option.1)) tuning.rename false

-- the new name is that of another data source
abbrev pub asks_double_name : List DsDef → Tuning → Bool
asks_double_name sources tuning =
    option_map_or (λ (option : Asked Name). not (same_name option.0 option.1) && has_source sources option.1)
    tuning.rename false

abbrev pub asks_bad_heartbeat : Limits → Tuning → Bool
asks_bad_heartbeat limits tuning =
    option_map_or (λ (option : Asked ℕ). is_bad_heartbeat limits option.1) tuning.heartbeat false

-- the database would be too large with one more archive
abbrev pub archive_is_too_large : Limits → Settings → Bool
archive_is_too_large limits settings =
    nat_lt limits.max_archives (length settings.rows) || nat_lt limits.max_cells (cells settings)

abbrev pub archive_tune_checks : Limits → Settings → Option ArchiveTune → List Check
archive_tune_checks limits settings None = []
archive_tune_checks limits settings (Some (Add def)) =
    ◌refuses◌ (is_bad_xff limits def.xff) BadXff
    ∷ ◌refuses◌ (is_bad_steps limits def.steps) BadSteps
    ∷ ◌refuses◌ (is_bad_rows limits def.rows) BadRows
    ∷ ◌refuses◌ (archive_is_too_large limits (settings_after settings (archive_event (Add def)))) TooLarge
    ∷ []
archive_tune_checks limits settings (Some (Remove archive)) =
    ◌refuses◌ (nat_le (length settings.rows) archive) NoSuchArchive
    ∷ ◌refuses◌ (nat_le (length settings.rows) 1) NoArchive
    ∷ []

abbrev pub option_checks : Limits → List DsDef → Tuning → List Check
option_checks limits sources tuning =
    ◌refuses◌ (asks_nothing tuning) NothingToTune
    ∷ ◌refuses◌ (is_mixed tuning) MixedTune
    ∷ ◌refuses◌ (any_names_no_source sources tuning) NoSuchSource
    ∷ ◌refuses◌ (asks_bad_name tuning) BadName
    ∷ ◌refuses◌ (asks_double_name sources tuning) DoubleName
    ∷ ◌refuses◌ (asks_bad_heartbeat limits tuning) BadHeartbeat
    ∷ ◌refuses◌ (list_any (λ (source : DsDef). has_bad_bounds limits (tuned tuning source)) sources) BadBounds
    ∷ []

-- the checks of the options, and then those of an archive
abbrev pub tune_checks : Limits → Settings → Tuning → List Check
tune_checks limits settings tuning =
    option_checks limits settings.sources tuning ++ archive_tune_checks limits settings tuning.archive

-- the archive would have too many rows
abbrev pub grows_too_far : Limits → Change → ℕ → ℕ → Bool
grows_too_far limits Grow old rows = nat_lt limits.max_rows (old + rows)
grows_too_far limits Shrink old rows = false

abbrev pub shrinks_too_far : Change → ℕ → ℕ → Bool
shrinks_too_far Grow old rows = false
shrinks_too_far Shrink old rows = nat_le old rows

abbrev pub resize_checks : Limits → Settings → ℕ → Change → ℕ → List Check
resize_checks limits settings archive change rows =
    ◌refuses◌ (nat_le (length settings.rows) archive) NoSuchArchive
    ∷ ◌refuses◌
    (is_bad_rows limits rows || grows_too_far limits change (slice_index_or settings.rows archive 0) rows)
    BadRows
    ∷ ◌refuses◌ (shrinks_too_far change (slice_index_or settings.rows archive 0) rows) ShrinkTooFar
    ∷ ◌refuses◌
    (nat_lt limits.max_cells
    (cells (fold settings_after settings (events settings (Resizing archive change rows)))))
    TooLarge
    ∷ []

abbrev pub checks : Limits → Content → DatabaseChange → List Check
checks limits base (Updating update) = update_checks limits base.sources base.last update
checks limits base (TuningBy tuning) = tune_checks limits (settings_of base) tuning
checks limits base (Resizing archive change rows) = resize_checks limits (settings_of base) archive change rows

-- the refusal of a command, `None` if it is accepted. Memory is left out
unfoldable pub verdict_within : Limits → Content → DatabaseChange → Option Refusal
verdict_within limits base command = first_refusal (checks limits base command)

abbrev pub verdict : Content → DatabaseChange → Option Refusal
verdict = verdict_within present

abbrev pub is_accepted : Content → DatabaseChange → Bool
is_accepted now command = is_none (verdict now command)
