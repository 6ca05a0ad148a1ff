-- Definition: which databases are valid (this project's rule).
use Rattle.std.specs.Prelude.{◌≡◌, ℕ, ◌+◌, ◌*◌, ◌/◌, ◌%◌, ◌<◌, ◌≤◌, ◌≢◌, min, pos, ◌≤ℤ◌, unsigned_abs, true, false, List, [], ◌∷◌, length}
use Rattle.rrd_spec.specs.Names.{AllByRecursion, Cell, Raw, top, IsAccepted, IsBounded, Function, Average, Part, is_good}
use Rattle.rrd_spec.specs.declared.settings.DsDef.{DsDef}
use Rattle.rrd_spec.specs.declared.entry.SavedSource.{SavedSource}
pub use Rattle.rrd_fold.specs.Bounds.{weight}
use Rattle.rrd_spec.specs.Limits.{Limits, max_tuned, present}
use Rattle.rrd_spec.specs.History.{Rra, Content}
use Rattle.rrd_spec.specs.Commands.{settings_of}
use Rattle.rrd_spec.specs.Settings.{names, is_double, cells}
use Rattle.rrd_spec.specs.Commands.Verdict.{is_bad_heartbeat, has_bad_bounds}
use Rattle.rrd_spec.specs.Journal.Entries.{SavedArchive, BeforeUpdate, Entry, UpdateEntry, TuneEntry, ResizeEntry, AddedEntry, RemovedEntry, rows_between, rows_at, entry, undone}

-- ---- a content

pub record IsSourceWithin (limits : Limits) (source : DsDef) : Type 0 where
  pub good_name : is_good source.name ≡ true
  pub good_heartbeat : is_bad_heartbeat limits source.heartbeat ≡ false
  pub good_bounds : has_bad_bounds limits source ≡ false

-- one raw value for each data source, which the data source accepts
abbrev pub AreAccepted : List DsDef → List Raw → Type 0
AreAccepted [] [] = Unit {0}
AreAccepted [] (raw ∷ raws) = ⊥
AreAccepted (source ∷ sources) [] = ⊥
AreAccepted (source ∷ sources) (raw ∷ raws) = IsAccepted source.kind raw × AreAccepted sources raws

-- a part of at most `passed` cells, each from -TOP to TOP
pub record IsPart (function : Function) (passed : ℕ) (part : Part) : Type 0 where
  pub few : part.known ≤ passed
  pub bounded : unsigned_abs part.value ≤ weight function part.known * top
  pub empty : part.known ≡ 0 → part.value ≡ pos 0

-- one part for each data source
pub record AreParts (function : Function) (sources passed : ℕ) (parts : List Part) : Type 0 where
  pub one_each : length parts ≡ sources
  pub each : AllByRecursion (IsPart function passed) parts

-- a row or step: one cell for each data source
pub record IsRow (sources : ℕ) (row : List Cell) : Type 0 where
  pub one_each : length row ≡ sources
  pub each : AllByRecursion IsBounded row

-- an archive after `steps` steps have ended
pub record IsValidArchiveWithin (limits : Limits) (sources steps : ℕ) (archive : Rra) : Type 0 where
  pub some_steps : 0 < archive.def.steps
  pub few_steps : archive.def.steps ≤ limits.max_steps_per_row
  pub some_rows : 0 < archive.def.rows
  pub few_rows : archive.def.rows ≤ limits.max_rows
  pub xff_low : pos 0 ≤ℤ archive.def.xff
  pub xff_high : archive.def.xff ≤ℤ pos limits.max_xff
  pub parts_are : AreParts archive.def.function sources (steps % archive.def.steps) archive.parts
  pub rows_are : length archive.rows ≡ archive.def.rows
  pub each_row : AllByRecursion (IsRow sources) archive.rows

pub record IsValidWithin (limits : Limits) (content : Content) : Type 0 where
  pub some_step : 0 < content.step
  pub small_step : content.step ≤ limits.max_step_seconds
  pub good_time : content.last ≤ limits.max_time
  pub some_depth : 0 < content.depth
  pub small_depth : content.depth ≤ limits.max_journal_depth
  pub some_source : 0 < length content.sources
  pub few_sources : length content.sources ≤ limits.max_sources
  pub some_archive : 0 < length content.archives
  pub few_archives : length content.archives ≤ limits.max_archives
  pub few_cells : cells (settings_of content) ≤ limits.max_cells
  pub sources_are : AllByRecursion (IsSourceWithin limits) content.sources
  pub names_differ : is_double (names content.sources) ≡ false
  pub raws_are : AreAccepted content.sources content.raws
  pub parts_are : AreParts Average (length content.sources) (content.last % content.step) content.parts
  pub archives_are :
      AllByRecursion (IsValidArchiveWithin limits (length content.sources) (content.last / content.step))
      content.archives

-- validity by the limits of every database
abbrev pub IsSource : DsDef → Type 0
IsSource = IsSourceWithin present

abbrev pub IsValidArchive : ℕ → ℕ → Rra → Type 0
IsValidArchive = IsValidArchiveWithin present

abbrev pub IsValid : Content → Type 0
IsValid = IsValidWithin present

-- ---- a journal

-- the rows and parts that an update between two times saved of an archive
pub record FitsArchive (step sources from to : ℕ) (archive : Rra) (old : SavedArchive) : Type 0 where
  pub same_function : old.function ≡ archive.def.function
  pub one_part_each : length old.parts ≡ sources
  pub as_many : length old.rows ≡ min (rows_between step archive.def from to) archive.def.rows
  pub one_cell_each : AllByRecursion (λ (row : List Cell). length row ≡ sources) old.rows

abbrev pub FitEach : ℕ → ℕ → ℕ → ℕ → List Rra → List SavedArchive → Type 0
FitEach step sources from to [] [] = Unit {0}
FitEach step sources from to [] (old ∷ olds) = ⊥
FitEach step sources from to (archive ∷ archives) [] = ⊥
FitEach step sources from to (archive ∷ archives) (old ∷ olds) =
    FitsArchive step sources from to archive old
    × FitEach step sources from to archives olds

pub record FitsUpdate (now : Content) (old : BeforeUpdate) : Type 0 where
  pub earlier : old.last < now.last
  pub one_raw_each : length old.raws ≡ length now.sources
  pub one_part_each : length old.parts ≡ length now.sources
  pub archives_fit : FitEach now.step (length now.sources) old.last now.last now.archives old.archives

-- numbers that rise, from `lowest` on, below `limit`
abbrev pub Rise : ℕ → ℕ → List SavedSource → Type 0
Rise lowest limit [] = Unit {0}
Rise lowest limit (old ∷ olds) = (lowest ≤ old.number) × (old.number < limit) × Rise (old.number + 1) limit olds

pub record FitsTune (now : Content) (olds : List SavedSource) : Type 0 where
  pub some : 0 < length olds
  pub few : length olds ≤ max_tuned
  pub rise : Rise 0 (length now.sources) olds

pub record FitsResize (now : Content) (archive : ℕ) (rows : List (List Cell)) : Type 0 where
  pub there : archive < length now.archives
  pub one_cell_each : AllByRecursion (λ (row : List Cell). length row ≡ length now.sources) rows
  pub another : length rows ≢ length (rows_at now.archives archive)

-- a removed archive has a number that it can have again, a part for each data source, its rows, and one cell for each
-- data source in each row
pub record FitsRemoved (now : Content) (number : ℕ) (archive : Rra) : Type 0 where
  pub there : number ≤ length now.archives
  pub one_part_each : length archive.parts ≡ length now.sources
  pub rows_are : length archive.rows ≡ archive.def.rows
  pub one_cell_each : AllByRecursion (λ (row : List Cell). length row ≡ length now.sources) archive.rows

-- entries for archives that were added or removed fit only if the limits allow such changes
abbrev pub FitsWithin : Limits → Content → Entry → Type 0
FitsWithin limits now (UpdateEntry old) = FitsUpdate now old
FitsWithin limits now (TuneEntry olds) = FitsTune now olds
FitsWithin limits now (ResizeEntry archive rows) = FitsResize now archive rows
FitsWithin limits now AddedEntry = (limits.allows_archive_changes ≡ true) × (1 < length now.archives)
FitsWithin limits now (RemovedEntry number archive) =
    (limits.allows_archive_changes ≡ true) × FitsRemoved now number archive

abbrev pub Fits : Content → Entry → Type 0
Fits = FitsWithin present

-- each entry fits, and undoing it gives a valid content, of which the older entries are a valid journal
abbrev pub IsValidJournalWithin : Limits → Content → List Entry → Type 0
IsValidJournalWithin limits now [] = Unit {0}
IsValidJournalWithin limits now (entry ∷ journal) =
    FitsWithin limits now entry × IsValidWithin limits (undone now entry) × IsValidJournalWithin limits (undone now entry) journal

pub record IsValidDatabaseWithin (limits : Limits) (now : Content) (journal : List Entry) : Type 0 where
  pub content_is : IsValidWithin limits now
  pub journal_is : IsValidJournalWithin limits now journal
  pub few : length journal ≤ now.depth

-- validity by the limits of every database
abbrev pub IsValidJournal : Content → List Entry → Type 0
IsValidJournal = IsValidJournalWithin present

abbrev pub IsValidDatabase : Content → List Entry → Type 0
IsValidDatabase = IsValidDatabaseWithin present
