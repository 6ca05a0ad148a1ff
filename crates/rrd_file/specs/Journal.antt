-- Glue: the properties of an entry that is written, and of one that was read record by record.
use Rattle.std.specs.Prelude.{◌≡◌, ◌<◌, ℕ, List, length, ◌^◌}
use Rattle.rrd_file.specs.Names.{Cell, HasWidth, SavedSource, Outline, Entry, UpdateEntry, TuneEntry, ResizeEntry, AddedEntry, RemovedEntry, undone, Filed, Rra, Content, MayUpdate, outline_left, with_entry, Fits, IsValid}
use Rattle.rrd_file.specs.Layout.Pieces.{Tag, AnUpdate, ATune, AResize, AnAddition, ARemoval}
use Rattle.rrd_file.specs.declared.layout.Tag.{Tag as TagRead}
use Rattle.rrd_file.specs.declared.layout.Tag.TheVariants as read

-- ---- entries that are written

-- the entry fits some valid content, and undoing it leaves a valid content
pub record IsEntryOfSome (entry : Entry) : Type 0 where
  pub now : Content
  pub valid : IsValid now
  pub fits : Fits now entry
  pub before : IsValid (undone now entry)

-- the number of a data source fits two bytes
abbrev pub HasSmallNumber : SavedSource → Type 0
HasSmallNumber old = old.number < 2 ^ 16

-- ---- entries that were read

-- `count` rows of `sources` cells each
pub record AreRows (count sources : ℕ) (rows : List (List Cell)) : Type 0 where
  pub as_many : length rows ≡ count
  pub one_width : HasWidth sources rows

-- a removed archive
pub record IsRemovedShaped (now : Outline) (archive : Rra) : Type 0 where
  pub one_part_each : length archive.parts ≡ length now.sources
  pub rows_are : length archive.rows ≡ archive.def.rows
  pub one_cell_each : HasWidth (length now.sources) archive.rows

-- an update was checked by pieces, and fits; of another entry the numbers of its values are known
abbrev pub IsShaped : Filed → Entry → Type 0
IsShaped f (UpdateEntry old) = MayUpdate f.header.step (outline_left f) old
IsShaped f (TuneEntry olds) = Unit {0}
IsShaped f (ResizeEntry archive rows) = HasWidth (length (outline_left f).sources) rows
IsShaped f AddedEntry = Unit {0}
IsShaped f (RemovedEntry number archive) = IsRemovedShaped (outline_left f) archive

-- one more entry was read
pub record HasOneMore (old new : Filed) : Type 0 where
  pub entry : Entry
  pub more : new ≡ with_entry old entry

abbrev pub tag_said : TagRead → Tag
tag_said read.AnUpdate = AnUpdate
tag_said read.ATune = ATune
tag_said read.AResize = AResize
tag_said read.AnAddition = AnAddition
tag_said read.ARemoval = ARemoval
