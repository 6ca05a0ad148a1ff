-- Glue: the outlines on which a check of an entry works; what its readers have checked; and the names of a tune.
use Rattle.std.specs.Prelude.{◌≡◌, ◌<◌, ◌≤◌, List, length, sum}
use Rattle.rrd_base.specs.Names.{AllByRecursion, Name, SavedSource, Outline, Version, Content, limits_of, present, AddedEntry, Entry, RemovedEntry, ResizeEntry, TuneEntry, UpdateEntry, IsRemovedNumber, MayUpdate, outline_of, rows_of, IsValidWithin}
use Rattle.rrd_spec.specs.Journal.Fitting.{IsArchiveDef}
use Rattle.rrd_base.specs.Rebuild.Validators.{EntryValidator}
use Rattle.rrd_base.specs.Tune.{with_kept}

-- an outline whose numbers of rows and steps are within the limits: that of a valid content, or of one that is partly
-- read
pub record IsOutline (outline : Outline) : Type 0 where
  pub few_sources : length outline.sources ≤ present.max_sources
  pub archives_are : AllByRecursion (IsArchiveDef present) outline.archives
  pub few_rows : sum (rows_of outline.archives) ≤ present.max_cells

pub record IsEntryValidator (j : EntryValidator) : Type 0 where
  pub some_step : 0 < j.step
  pub small_step : j.step ≤ present.max_step_seconds
  pub outline_is : IsOutline j.outline

-- the outline of a content that is valid within the limits of a version
pub record IsValidOutline (version : Version) (outline : Outline) : Type 0 where
  pub content : Content
  pub valid : IsValidWithin (limits_of version) content
  pub outline_is : outline ≡ outline_of content

-- there is room for a removed archive
abbrev pub HasPlace : Outline → Entry → Type 0
HasPlace now (UpdateEntry old) = Unit {0}
HasPlace now (TuneEntry olds) = Unit {0}
HasPlace now (ResizeEntry archive rows) = Unit {0}
HasPlace now AddedEntry = Unit {0}
HasPlace now (RemovedEntry number archive) = IsRemovedNumber present now number

-- what the readers of its pieces have checked of the next entry: all of an update; the others are checked as a whole
abbrev pub IsChecked : EntryValidator → Entry → Type 0
IsChecked j (UpdateEntry old) = MayUpdate j.step j.outline old
IsChecked j (TuneEntry olds) = Unit {0}
IsChecked j (ResizeEntry archive rows) = Unit {0}
IsChecked j AddedEntry = Unit {0}
IsChecked j (RemovedEntry number archive) = Unit {0}

-- the names after the data sources of a tune's entry are restored
abbrev pub with_names : List Name → List SavedSource → List Name
with_names names olds = with_kept (λ (old : SavedSource). old.source.name) names olds
