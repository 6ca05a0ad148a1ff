-- Definition: which journal entry fits an outline (this project's rule).
use Rattle.std.specs.Prelude.{◌≡◌, ◌≢◌, ℕ, ◌/◌, ◌%◌, ◌<◌, ◌≤◌, ◌≤ℤ◌, pos, min, true, false, List, [], ◌∷◌, ◌*◌, ◌+◌, length, slice_index_or, sum}
use Rattle.rrd_spec.specs.Names.{AllByRecursion, Cell, IsAccepted, Average}
use Rattle.rrd_spec.specs.declared.entry.SavedSource.{SavedSource}
use Rattle.rrd_spec.specs.declared.outline.Outline.{Outline}
use Rattle.rrd_spec.specs.declared.settings.RraDef.{RraDef}
use Rattle.rrd_spec.specs.Limits.{Limits, max_tuned}
use Rattle.rrd_spec.specs.History.{Rra}
use Rattle.rrd_spec.specs.Settings.{cells, is_double, names}
use Rattle.rrd_spec.specs.Journal.Entries.{BeforeUpdate, Entry, UpdateEntry, TuneEntry, ResizeEntry, AddedEntry, RemovedEntry, SavedArchive, rows_between}
use Rattle.rrd_spec.specs.Journal.Outlines.{rows_of, with_row_number, with_sources}
use Rattle.rrd_spec.specs.Validity.{AreAccepted, AreParts, IsRow, IsSourceWithin, Rise}

-- the values that an update between two times may have saved of an archive with these settings
pub record MaySave (step from to sources : ℕ) (def : RraDef) (old : SavedArchive) : Type 0 where
  pub same_function : old.function ≡ def.function
  pub parts_are : AreParts def.function sources (from / step % def.steps) old.parts
  pub as_many : length old.rows ≡ min (rows_between step def from to) def.rows
  pub each_row : AllByRecursion (IsRow sources) old.rows

abbrev pub MaySaveEach : ℕ → ℕ → ℕ → ℕ → List RraDef → List SavedArchive → Type 0
MaySaveEach step from to sources [] [] = Unit {0}
MaySaveEach step from to sources [] (old ∷ olds) = ⊥
MaySaveEach step from to sources (def ∷ defs) [] = ⊥
MaySaveEach step from to sources (def ∷ defs) (old ∷ olds) =
    MaySave step from to sources def old × MaySaveEach step from to sources defs olds

pub record MayUpdate (step : ℕ) (now : Outline) (old : BeforeUpdate) : Type 0 where
  pub earlier : old.last < now.last
  pub raws_are : AreAccepted now.sources old.raws
  pub parts_are : AreParts Average (length now.sources) (old.last % step) old.parts
  pub archives_are : MaySaveEach step old.last now.last (length now.sources) now.archives old.archives

-- a data source before a tune, checked without the others
abbrev pub IsSavedSource : Limits → SavedSource → Type 0
IsSavedSource limits old = IsSourceWithin limits old.source × IsAccepted old.source.kind old.raw

pub record MayTune (limits : Limits) (now : Outline) (olds : List SavedSource) : Type 0 where
  pub some : 0 < length olds
  pub few : length olds ≤ max_tuned
  pub rise : Rise 0 (length now.sources) olds
  pub each : AllByRecursion (IsSavedSource limits) olds
  pub names_differ : is_double (names (with_sources now.sources olds)) ≡ false

-- the old number of rows of a resized archive
pub record AreOldRows (limits : Limits) (now : Outline) (archive rows : ℕ) : Type 0 where
  pub some : 0 < rows
  pub few : rows ≤ limits.max_rows
  pub another : rows ≢ slice_index_or (rows_of now.archives) archive 0
  pub few_cells :
      cells (record { sources = now.sources; rows = rows_of (with_row_number now.archives archive rows) })
      ≤ limits.max_cells

pub record MayResize (limits : Limits) (now : Outline) (archive : ℕ) (rows : List (List Cell)) : Type 0 where
  pub there : archive < length now.archives
  pub old_rows : AreOldRows limits now archive (length rows)
  pub each_row : AllByRecursion (IsRow (length now.sources)) rows

-- the settings of an archive
pub record IsArchiveDef (limits : Limits) (def : RraDef) : Type 0 where
  pub some_steps : 0 < def.steps
  pub few_steps : def.steps ≤ limits.max_steps_per_row
  pub some_rows : 0 < def.rows
  pub few_rows : def.rows ≤ limits.max_rows
  pub xff_low : pos 0 ≤ℤ def.xff
  pub xff_high : def.xff ≤ℤ pos limits.max_xff

-- the number of a removed archive: there is room for the archive at that number
pub record IsRemovedNumber (limits : Limits) (now : Outline) (number : ℕ) : Type 0 where
  pub there : number ≤ length now.archives
  pub few : length now.archives < limits.max_archives

-- the settings of a removed archive: with its rows the cells are within the limit
pub record AreRemovedSettings (limits : Limits) (now : Outline) (def : RraDef) : Type 0 where
  pub def_is : IsArchiveDef limits def
  pub few_cells : length now.sources * (sum (rows_of now.archives) + def.rows) ≤ limits.max_cells

-- a removed archive, with the partial rows of the last time
pub record MayRemove (limits : Limits) (step : ℕ) (now : Outline) (number : ℕ) (archive : Rra) : Type 0 where
  pub number_is : IsRemovedNumber limits now number
  pub settings_are : AreRemovedSettings limits now archive.def
  pub parts_are :
      AreParts archive.def.function (length now.sources) (now.last / step % archive.def.steps) archive.parts
  pub rows_are : length archive.rows ≡ archive.def.rows
  pub each_row : AllByRecursion (IsRow (length now.sources)) archive.rows

-- an entry fits an outline, if steps have `step` seconds
abbrev pub MayUndo : Limits → ℕ → Outline → Entry → Type 0
MayUndo limits step now (UpdateEntry old) = MayUpdate step now old
MayUndo limits step now (TuneEntry olds) = MayTune limits now olds
MayUndo limits step now (ResizeEntry archive rows) = MayResize limits now archive rows
MayUndo limits step now AddedEntry = (limits.allows_archive_changes ≡ true) × (1 < length now.archives)
MayUndo limits step now (RemovedEntry number archive) =
    (limits.allows_archive_changes ≡ true) × MayRemove limits step now number archive
