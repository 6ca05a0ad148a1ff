-- Definition: which databases can be created, and the content of a new one (rrdcreate).
use Rattle.std.specs.Prelude.{ℕ, nat_lt, ◌==◌, Bool, not, ◌||◌, Option, List, [], ◌∷◌, ◌++◌, length, map, replicate}
use Rattle.rrd_spec.specs.Names.{list_any, Raw, is_good, nothing}
use Rattle.rrd_spec.specs.declared.requests.create.CreateSpec.{CreateSpec}
use Rattle.rrd_spec.specs.declared.settings.DsDef.{DsDef}
use Rattle.rrd_spec.specs.declared.settings.RraDef.{RraDef}
use Rattle.rrd_spec.specs.declared.refusal.Refusal.{Refusal}
use Rattle.rrd_spec.specs.declared.refusal.Refusal.TheVariants.{BadStep, BadStart, NoSource, NoArchive, BadName, DoubleName, BadHeartbeat, BadBounds, BadXff, BadSteps, BadRows, TooLarge, BadDepth}
use Rattle.rrd_spec.specs.Limits.{Limits, present}
use Rattle.rrd_spec.specs.History.{Content}
pub use Rattle.rrd_spec.specs.History.Lives.{new_archive}
use Rattle.rrd_spec.specs.Settings.{Settings, names, is_double, cells}
use Rattle.rrd_spec.specs.Commands.Verdict.{Check, ◌refuses◌, first_refusal, has_bad_bounds, is_bad_heartbeat, is_bad_rows, is_out}
pub use Rattle.rrd_spec.specs.Commands.Verdict.{is_bad_steps, is_bad_xff}
use Rattle.rrd_spec.specs.History.Steps.{step}

-- ---- the refusals

abbrev pub is_bad_step : Limits → ℕ → Bool
is_bad_step limits step = is_out limits.max_step_seconds step

abbrev pub is_bad_depth : Limits → ℕ → Bool
is_bad_depth limits depth = is_out limits.max_journal_depth depth

-- the settings asked for: the data sources, and each archive's number of rows
abbrev pub settings_asked : CreateSpec → Settings
settings_asked spec = record { sources = spec.sources; rows = map (λ (def : RraDef). def.rows) spec.archives }

-- too many data sources, archives, or cells, which are the data sources times all rows
abbrev pub is_too_large : Limits → CreateSpec → Bool
is_too_large limits spec =
    nat_lt limits.max_sources (length spec.sources)
    || nat_lt limits.max_archives (length spec.archives)
    || nat_lt limits.max_cells (cells (settings_asked spec))

-- the checks before those of the data sources and archives
abbrev pub first_checks : Limits → CreateSpec → List Check
first_checks limits spec =
    ◌refuses◌ (is_bad_step limits spec.step) BadStep
    ∷ ◌refuses◌ (nat_lt limits.max_time spec.start) BadStart
    ∷ ◌refuses◌ (length spec.sources == 0) NoSource
    ∷ ◌refuses◌ (length spec.archives == 0) NoArchive
    ∷ []

-- each check covers all data sources before the next check
abbrev pub source_checks : Limits → List DsDef → List Check
source_checks limits sources =
    ◌refuses◌ (list_any (λ (source : DsDef). not (is_good source.name)) sources) BadName
    ∷ ◌refuses◌ (is_double (names sources)) DoubleName
    ∷ ◌refuses◌ (list_any (λ (source : DsDef). is_bad_heartbeat limits source.heartbeat) sources) BadHeartbeat
    ∷ ◌refuses◌ (list_any (has_bad_bounds limits) sources) BadBounds
    ∷ []

-- each check covers all archives before the next check
abbrev pub archive_checks : Limits → List RraDef → List Check
archive_checks limits defs =
    ◌refuses◌ (list_any (λ (def : RraDef). is_bad_xff limits def.xff) defs) BadXff
    ∷ ◌refuses◌ (list_any (λ (def : RraDef). is_bad_steps limits def.steps) defs) BadSteps
    ∷ ◌refuses◌ (list_any (λ (def : RraDef). is_bad_rows limits def.rows) defs) BadRows
    ∷ []

abbrev pub size_checks : Limits → CreateSpec → List Check
size_checks limits spec =
    ◌refuses◌ (is_too_large limits spec) TooLarge
    ∷ ◌refuses◌ (is_bad_depth limits spec.depth) BadDepth
    ∷ []

abbrev pub create_checks : Limits → CreateSpec → List Check
create_checks limits spec =
    first_checks limits spec
    ++ source_checks limits spec.sources
    ++ archive_checks limits spec.archives
    ++ size_checks limits spec

-- the refusal of a create, `None` if it is accepted. Memory is left out
unfoldable pub create_verdict_within : Limits → CreateSpec → Option Refusal
create_verdict_within limits spec = first_refusal (create_checks limits spec)

abbrev pub create_verdict : CreateSpec → Option Refusal
create_verdict = create_verdict_within present

-- ---- the new database

-- the content of a new database: its last time is the start, and nothing is known yet
abbrev pub created : CreateSpec → Content
created spec = record {
  step = spec.step;
  depth = spec.depth;
  sources = spec.sources;
  last = spec.start;
  raws = replicate (length spec.sources) Raw.Unknown;
  parts = replicate (length spec.sources) nothing;
  archives = map (new_archive (length spec.sources)) spec.archives;
}
