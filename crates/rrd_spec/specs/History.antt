-- Definition: the content that a history of commands leaves in a database, second by second. A rule without the name of
-- a manual page is this project's.
use Rattle.std.specs.Prelude.{◌≡◌, ℕ, ◌+◌, ◌-◌, ◌<◌, nat_le, ◌==◌, if◌then◌else◌, Bool, List, [], ◌∷◌, map, length}
use Rattle.rrd_spec.specs.Names.{fold, find, range_with_len, AllByRecursion, option_map_or, Cell, Raw, Kind, Gauge, Counter, Derive, Absolute, rate, Part}
use Rattle.rrd_spec.specs.declared.settings.DsDef.{DsDef}
use Rattle.rrd_spec.specs.declared.settings.RraDef.{RraDef}
pub mod Groups
pub mod Steps
pub mod Lives
pub mod Rows
pub mod Cells

-- ---- the content of a database

-- an archive: its settings, the part of the unfinished row for each data source, and the rows, oldest first, with one
-- cell for each data source
pub record Rra : Type 0 where
  pub def : RraDef
  pub parts : List Part
  pub rows : List (List Cell)

-- a database: its settings, the last time, the last raw value and the part of the unfinished step for each data source,
-- and the archives
pub record Content : Type 0 where
  pub step : ℕ
  pub depth : ℕ
  pub sources : List DsDef
  pub last : ℕ
  pub raws : List Raw
  pub parts : List Part
  pub archives : List Rra

-- ---- the events of a history

-- a sample: its time, and a raw value for each data source
pub record Reading : Type 0 where
  pub time : ℕ
  pub raws : List Raw

-- a sample; new settings of the data sources; a new number of rows of an archive; an archive added after the others; an
-- archive removed
pub data Event : Type 0 where
  Sampled : Reading → Event
  Tuned : List DsDef → Event
  Resized : ℕ → ℕ → Event
  Added : RraDef → Event
  Removed : ℕ → Event

-- ---- the data sources: their settings, last time and raw values

-- the values on which the rates of the next sample depend
pub record Moment : Type 0 where
  pub sources : List DsDef
  pub last : ℕ
  pub raws : List Raw

abbrev pub same_kind : Kind → Kind → Bool
same_kind Gauge Gauge = Bool.true
same_kind Counter Counter = Bool.true
same_kind Derive Derive = Bool.true
same_kind Absolute Absolute = Bool.true
same_kind _ _ = Bool.false

-- a raw value under new settings: unknown if the type changes (this project's rule; rrdtune changes only the type)
abbrev pub raw_under : Kind → Kind → Raw → Raw
raw_under old new raw = if same_kind old new then raw else Raw.Unknown

abbrev pub raws_under : List DsDef → List DsDef → List Raw → List Raw
raws_under (old ∷ olds) (new ∷ news) (raw ∷ raws) = raw_under old.kind new.kind raw ∷ raws_under olds news raws
raws_under _ _ raws = raws

abbrev pub moment_after : Moment → Event → Moment
moment_after now (Sampled sample) = record { sources = now.sources; last = sample.time; raws = sample.raws }
moment_after now (Tuned sources) =
    record { sources = sources; last = now.last; raws = raws_under now.sources sources now.raws }
moment_after now (Resized archive rows) = now
moment_after now (Added def) = now
moment_after now (Removed archive) = now

-- the rates of the interval before a sample, from the settings in force and the raw values of the sample before
-- (rrdcreate, "DS"; that the settings in force hold for the whole interval is this project's rule)
abbrev pub rates : List DsDef → ℕ → List Raw → List Raw → List Cell
rates (source ∷ sources) interval (old ∷ olds) (new ∷ news) =
    rate source.kind old new interval source.heartbeat source.min source.max
    ∷ rates sources interval olds news
rates _ interval _ _ = []

-- a sample as the archives see it
pub record Taken : Type 0 where
  pub time : ℕ
  pub rates : List Cell

-- all samples, in order
abbrev pub samples : Moment → List Event → List Taken
samples now [] = []
samples now (Sampled sample ∷ events) =
    record { time = sample.time; rates = rates now.sources (sample.time - now.last) now.raws sample.raws }
    ∷ samples (moment_after now (Sampled sample)) events
samples now (Tuned sources ∷ events) = samples (moment_after now (Tuned sources)) events
samples now (Resized archive rows ∷ events) = samples now events
samples now (Added def ∷ events) = samples now events
samples now (Removed archive ∷ events) = samples now events

-- the rates in a second: those of the first sample at or after the second (rrdcreate, "The HEARTBEAT and the STEP")
abbrev pub second : List Taken → ℕ → List Cell
second taken at = option_map_or (λ sample. sample.rates) (find (λ sample. nat_le at sample.time) taken) []

-- the rates of each second after `from`, up to `to`
abbrev pub seconds : List Taken → ℕ → ℕ → List (List Cell)
seconds taken from to = map (second taken) (range_with_len (from + 1) (to - from))

-- ---- the result of a history

abbrev pub moment_of : Content → Moment
moment_of content = record { sources = content.sources; last = content.last; raws = content.raws }

-- the data sources after the events
abbrev pub moment_at_end : Content → List Event → Moment
moment_at_end base events = fold moment_after (moment_of base) events

-- the seconds after the base's last time, each with its rates
unfoldable pub seconds_of : Content → List Event → List (List Cell)
seconds_of base events = seconds (samples (moment_of base) events) base.last (moment_at_end base events).last

-- the number of rows that archive `index` has after an event, and after all events (rrdresize)
abbrev pub rows_after : ℕ → ℕ → Event → ℕ
rows_after index rows (Sampled sample) = rows
rows_after index rows (Tuned sources) = rows
rows_after index rows (Resized archive new) = if archive == index then new else rows
rows_after index rows (Added def) = rows
rows_after index rows (Removed archive) = rows

abbrev pub rows_at_end : ℕ → ℕ → List Event → ℕ
rows_at_end index rows events = fold (rows_after index) rows events

-- ---- the histories that are defined

-- times rise, a tune keeps the number of data sources, and each archive has at least one row, and one step in each row
abbrev pub IsHistory : Moment → List Event → Type 0
IsHistory now [] = Unit {0}
IsHistory now (Sampled sample ∷ events) =
    (now.last < sample.time) × IsHistory (moment_after now (Sampled sample)) events
IsHistory now (Tuned sources ∷ events) =
    (length sources ≡ length now.sources) × IsHistory (moment_after now (Tuned sources)) events
IsHistory now (Resized archive rows ∷ events) = (0 < rows) × IsHistory now events
IsHistory now (Added def ∷ events) = (0 < def.steps) × (0 < def.rows) × IsHistory now events
IsHistory now (Removed archive ∷ events) = IsHistory now events

pub record IsArchive (archive : Rra) : Type 0 where
  pub some_steps : 0 < archive.def.steps
  pub some_rows : 0 < archive.def.rows
  pub rows_are : length archive.rows ≡ archive.def.rows

pub record IsBase (base : Content) : Type 0 where
  pub some_step : 0 < base.step
  pub archives_are : AllByRecursion IsArchive base.archives

abbrev pub definitions : List Rra → List RraDef
definitions archives = map (λ (archive : Rra). archive.def) archives
