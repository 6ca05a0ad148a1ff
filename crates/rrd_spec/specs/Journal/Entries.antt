-- Definition: the journal entry of a command, and how it undoes the command (this project's rule).
use Rattle.std.specs.Prelude.{◌≡◌, ℕ, zero, suc, pos, ◌+◌, ◌-◌, ◌/◌, min, Bool, false, ◌||◌, if◌then◌else◌, Option, Some, None, List, [], ◌∷◌, ◌++◌, map, length, take, slice_index_or, slice_set}
use Rattle.rrd_spec.specs.Names.{fold, insert, Cell, Raw, Function, Average, Part, option_map_or, same_name}
use Rattle.rrd_spec.specs.declared.settings.DsDef.{DsDef}
use Rattle.rrd_spec.specs.declared.entry.SavedSource.{SavedSource}
use Rattle.rrd_spec.specs.declared.settings.RraDef.{RraDef}
use Rattle.rrd_spec.specs.Settings.{resolution}
use Rattle.rrd_spec.specs.History.{Rra, Content, IsBase}
use Rattle.rrd_spec.specs.Commands.{Asked, DatabaseChange, Updating, TuningBy, Resizing, moved}
use Rattle.rrd_spec.specs.declared.requests.tune.Tuning.{Tuning}
use Rattle.rrd_spec.specs.declared.requests.tune.ArchiveTune.{ArchiveTune}
use Rattle.rrd_spec.specs.declared.requests.tune.ArchiveTune.TheVariants.{Add, Remove}
use Rattle.rrd_spec.specs.History.Rows.{row}
use Rattle.rrd_spec.specs.History.Steps.{step}

-- the values that the entry of an update saves of an archive: its function, the parts of its unfinished row, and its
-- oldest rows
pub record SavedArchive : Type 0 where
  pub function : Function
  pub parts : List Part
  pub rows : List (List Cell)

pub record BeforeUpdate : Type 0 where
  pub last : ℕ
  pub raws : List Raw
  pub parts : List Part
  pub archives : List SavedArchive

pub data Entry : Type 0 where
  UpdateEntry : BeforeUpdate → Entry
  TuneEntry : List SavedSource → Entry
  ResizeEntry : ℕ → List (List Cell) → Entry
  -- an archive was added; archive `number` was removed
  AddedEntry : Entry
  RemovedEntry : ℕ → Rra → Entry

-- ---- the entry of a command

-- the number of an archive's rows that end after `from`, up to `to`
abbrev pub rows_between : ℕ → RraDef → ℕ → ℕ → ℕ
rows_between step def from to = to / resolution step def - from / resolution step def

-- the values saved of an archive by an update between two times: as many of its oldest rows as the update finishes, at
-- most all
abbrev pub saved : ℕ → ℕ → ℕ → Rra → SavedArchive
saved step from to archive = record {
  function = archive.def.function;
  parts = archive.parts;
  rows = take (min (rows_between step archive.def from to) (length archive.rows)) archive.rows;
}

abbrev pub is_asked : {A : Type 0} → Option (Asked A) → DsDef → Bool
is_asked None source = false
is_asked (Some option) source = same_name option.0 source.name

abbrev pub is_named : Tuning → DsDef → Bool
is_named tuning source =
    is_asked tuning.heartbeat source || is_asked tuning.minimum source || is_asked tuning.maximum source
    || is_asked tuning.kind source || is_asked tuning.rename source

-- the data sources that a tune names, as they are before it, by rising number
abbrev pub saved_sources : Tuning → ℕ → List DsDef → List Raw → List SavedSource
saved_sources tuning number [] raws = []
saved_sources tuning number (source ∷ sources) [] = []
saved_sources tuning number (source ∷ sources) (raw ∷ raws) =
    if is_named tuning source then record { number = number; source = source; raw = raw }
    ∷ saved_sources tuning (number + 1) sources raws else saved_sources tuning (number + 1) sources raws

abbrev pub rows_at : List Rra → ℕ → List (List Cell)
rows_at [] index = []
rows_at (archive ∷ archives) zero = archive.rows
rows_at (archive ∷ archives) (suc index) = rows_at archives index

-- archive `number`, which exists
abbrev pub archive_at : List Rra → ℕ → Rra
archive_at archives number =
    slice_index_or archives number (record {
      def = record { function = Average; xff = pos 0; steps = 0; rows = 0 };
      parts = [];
      rows = [];
    })

-- the entry of a tune that adds or removes an archive
abbrev pub archive_entry : Content → ArchiveTune → Entry
archive_entry base (Add def) = AddedEntry
archive_entry base (Remove number) = RemovedEntry number (archive_at base.archives number)

-- the values saved of a content before an update that ends at a time
abbrev pub before : Content → ℕ → BeforeUpdate
before base end =
    record {
      last = base.last;
      raws = base.raws;
      parts = base.parts;
      archives = map (saved base.step base.last end) base.archives;
    }

abbrev pub entry : Content → DatabaseChange → Entry
entry base (Updating update) = UpdateEntry (before base (moved base (Updating update)).last)
entry base (TuningBy tuning) =
    option_map_or (archive_entry base) tuning.archive (TuneEntry (saved_sources tuning 0 base.sources base.raws))
entry base (Resizing archive change rows) = ResizeEntry archive (rows_at base.archives archive)

-- the number of cells in rows, in the values that an update saved, and in an entry
abbrev pub cells_in : List (List Cell) → ℕ
cells_in [] = 0
cells_in (row ∷ rows) = length row + cells_in rows

abbrev pub cells_saved : List SavedArchive → ℕ
cells_saved [] = 0
cells_saved (old ∷ olds) = cells_in old.rows + cells_saved olds

abbrev pub entry_cells : Entry → ℕ
entry_cells (UpdateEntry old) = cells_saved old.archives
entry_cells (TuneEntry olds) = 0
entry_cells (ResizeEntry archive rows) = cells_in rows
entry_cells AddedEntry = 0
entry_cells (RemovedEntry number archive) = cells_in archive.rows

-- ---- undoing

-- the old rows return as the oldest; as many of the newest are removed
abbrev pub put_back : Rra → SavedArchive → Rra
put_back archive old =
    record archive { parts = old.parts; rows = old.rows ++ take (length archive.rows - length old.rows) archive.rows }

abbrev pub put_back_each : List Rra → List SavedArchive → List Rra
put_back_each [] olds = []
put_back_each (archive ∷ archives) [] = archive ∷ archives
put_back_each (archive ∷ archives) (old ∷ olds) = put_back archive old ∷ put_back_each archives olds

abbrev pub with_source : Content → SavedSource → Content
with_source now old =
    record now { sources = slice_set now.sources old.number old.source; raws = slice_set now.raws old.number old.raw }

abbrev pub with_rows_at : List Rra → ℕ → List (List Cell) → List Rra
with_rows_at [] index rows = []
with_rows_at (archive ∷ archives) zero rows =
    record archive { def = record archive.def { rows = length rows }; rows = rows } ∷ archives
with_rows_at (archive ∷ archives) (suc index) rows = archive ∷ with_rows_at archives index rows

abbrev pub undone : Content → Entry → Content
undone now (UpdateEntry old) =
    record now {
      last = old.last;
      raws = old.raws;
      parts = old.parts;
      archives = put_back_each now.archives old.archives;
    }
undone now (TuneEntry olds) = fold with_source now olds
undone now (ResizeEntry archive rows) = record now { archives = with_rows_at now.archives archive rows }
undone now AddedEntry = record now { archives = take (length now.archives - 1) now.archives }
undone now (RemovedEntry number archive) = record now { archives = insert now.archives number archive }

-- ---- the contents whose commands can be undone

-- the conditions for undoing: each archive has its rows, and each data source has a raw value
pub record IsSound (base : Content) : Type 0 where
  pub is_base : IsBase base
  pub one_raw_each : length base.raws ≡ length base.sources
