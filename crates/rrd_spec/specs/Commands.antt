-- Definition: the commands that change a database, and the events that they cause (rrdupdate, rrdtune, rrdresize).
use Rattle.std.specs.Prelude.{ℕ, ◌+◌, ◌-◌, if◌then◌else◌, Bool, true, false, Option, Some, None, List, [], ◌∷◌, ◌++◌, map, slice_index_or, slice_set}
use Rattle.rrd_spec.specs.Names.{fold, remove, option_map_or, unwrap_or, Raw, Kind, Name, same_name, admit}
use Rattle.rrd_spec.specs.declared.settings.DsDef.{DsDef}
use Rattle.rrd_spec.specs.declared.requests.update.Given.{Given}
use Rattle.rrd_spec.specs.declared.requests.update.Sample.{Sample}
use Rattle.rrd_spec.specs.declared.requests.update.Update.{Update}
use Rattle.rrd_spec.specs.declared.requests.tune.Tuning.{Tuning}
use Rattle.rrd_spec.specs.declared.requests.tune.ArchiveTune.{ArchiveTune}
use Rattle.rrd_spec.specs.declared.requests.tune.ArchiveTune.TheVariants.{Add, Remove}
use Rattle.rrd_spec.specs.declared.requests.resize.Change.{Change}
use Rattle.rrd_spec.specs.declared.requests.resize.Change.TheVariants.{Grow, Shrink}
use Rattle.rrd_spec.specs.History.{Rra, Content, Reading, Event, Sampled, Tuned, Resized, Added, Removed}
pub use Rattle.rrd_spec.specs.History.{raw_under}
use Rattle.rrd_spec.specs.History.Cells.{content}
use Rattle.rrd_spec.specs.Settings.{Settings, names}
pub mod Creating
pub mod Verdict
pub mod RefusalTexts
pub mod Answers
pub mod Turns

-- ---- the requests

-- a new value for the data source of a name
abbrev pub Asked : Type 0 → Type 0
Asked A = Name × A

-- a command that changes a database
pub data DatabaseChange : Type 0 where
  Updating : Update → DatabaseChange
  TuningBy : Tuning → DatabaseChange
  Resizing : ℕ → Change → ℕ → DatabaseChange

-- ---- raw values

-- the raw value of a given value (rrdupdate; which numbers a data source accepts is this project's rule)
abbrev pub raw_of : Kind → Given → Raw
raw_of kind Given.Unknown = Raw.Unknown
raw_of kind (Given.Number number) = option_map_or Raw.Known (admit kind number) Raw.Unknown

-- ---- names

-- the value for a data source: the one at the index of its name; unknown if the template does not name the data source
-- (rrdupdate, "--template")
abbrev pub value_for : List Name → List Given → DsDef → Given
value_for [] values source = Given.Unknown
value_for (name ∷ names) [] source = Given.Unknown
value_for (name ∷ names) (value ∷ values) source =
    if same_name name source.name then value else value_for names values source

-- ---- the events of a command

abbrev pub rows_of_archives : List Rra → List ℕ
rows_of_archives archives = map (λ (archive : Rra). archive.def.rows) archives

abbrev pub settings_of : Content → Settings
settings_of base = record { sources = base.sources; rows = rows_of_archives base.archives }

abbrev pub all_rows_after : Event → List ℕ → List ℕ
all_rows_after (Sampled sample) rows = rows
all_rows_after (Tuned sources) rows = rows
all_rows_after (Resized archive new) rows = slice_set rows archive new
all_rows_after (Added def) rows = rows ++ def.rows ∷ []
all_rows_after (Removed archive) rows = remove rows archive

abbrev pub sources_after : List DsDef → Event → List DsDef
sources_after sources (Sampled sample) = sources
sources_after sources (Tuned new) = new
sources_after sources (Resized archive rows) = sources
sources_after sources (Added def) = sources
sources_after sources (Removed archive) = sources

abbrev pub settings_after : Settings → Event → Settings
settings_after settings event =
    record { sources = sources_after settings.sources event; rows = all_rows_after event settings.rows }

-- a sample with its raw values
abbrev pub sample_of : List DsDef → List Name → Sample → Reading
sample_of sources template sample =
    record {
      time = sample.time;
      raws = map (λ (source : DsDef). raw_of source.kind (value_for template sample.values source)) sources;
    }

abbrev pub samples_of : List DsDef → Update → List Reading
samples_of sources update = map (sample_of sources (unwrap_or update.template (names sources))) update.samples

-- the value that an option sets for the data source of this name, or else the old value
abbrev pub asked : {A : Type 0} → Option (Asked A) → Name → A → A
asked None name old = old
asked (Some option) name old = if same_name option.0 name then option.1 else old

-- the new settings of a data source (rrdtune). All names are those before the command (this project's rule)
abbrev pub tuned : Tuning → DsDef → DsDef
tuned tuning source = record {
  name = asked tuning.rename source.name source.name;
  kind = asked tuning.kind source.name source.kind;
  heartbeat = asked tuning.heartbeat source.name source.heartbeat;
  min = asked tuning.minimum source.name source.min;
  max = asked tuning.maximum source.name source.max;
}

abbrev pub rows_changed : Change → ℕ → ℕ → ℕ
rows_changed Grow old rows = old + rows
rows_changed Shrink old rows = old - rows

-- the event of an archive that is added or removed (rrdtune)
abbrev pub archive_event : ArchiveTune → Event
archive_event (Add def) = Added def
archive_event (Remove archive) = Removed archive

-- a tune adds an archive
abbrev pub is_addition : Option ArchiveTune → Bool
is_addition None = false
is_addition (Some (Add def)) = true
is_addition (Some (Remove archive)) = false

-- the events of a command
abbrev pub events : Settings → DatabaseChange → List Event
events settings (Updating update) = map Sampled (samples_of settings.sources update)
events settings (TuningBy tuning) =
    option_map_or archive_event tuning.archive (Tuned (map (tuned tuning) settings.sources)) ∷ []
events settings (Resizing archive change rows) =
    Resized archive (rows_changed change (slice_index_or settings.rows archive 0) rows) ∷ []

-- the events of a history, each command under the settings that the earlier commands left
abbrev pub events_of : Settings → List DatabaseChange → List Event
events_of settings [] = []
events_of settings (command ∷ commands) =
    events settings command
    ++ events_of (fold settings_after settings (events settings command)) commands

-- ---- the content after a history of commands, and after one command

-- each row is that of its time
abbrev pub content_of : Content → List DatabaseChange → Content
content_of base commands = content base (events_of (settings_of base) commands)

abbrev pub moved : Content → DatabaseChange → Content
moved base command = content base (events (settings_of base) command)
