-- Definition: the stages of reading a file: which record is due at a stage, how many bytes it has, which record may
-- come, and the stage that it leads to.
use Rattle.std.specs.Prelude.{◌≡◌, ℕ, zero, suc, ◌+◌, ◌*◌, ◌%◌, ◌<◌, ◌≤◌, min, true, List, [], ◌∷◌, ◌++◌, length, map, replicate}
use Rattle.rrd_file.specs.Names.{flat_map, IsAccepted, IsBounded, Average, DsDef, RraDef, Outline, Due, SourceDue, HeadDue, PrepDue, CellDue, EntryDue, NothingDue, Limits, max_tuned, Entry, rows_between, Version, One, Two, Filed, AreOldRows, AreRemovedSettings, IsRemovedNumber, IsSavedSource, IsHeader, MaySource, MayHead, MayPrep, MayCell, MayEntry, IsRowPart, begun, due, limits, outline_left, with_source, with_head, with_prep, with_cell, with_entry, IsPart}
use Rattle.rrd_file.specs.Layout.Pieces.{Piece, Mark, OfVersion, OfHeader, OfSource, OfArchive, OfPrep, OfCell, Tag, OfTag, OfTime, OfRawAndPart, OfRows, OfCount, OfSavedSource, OfNumber, AnUpdate, ATune, AResize, AnAddition, ARemoval}
use Rattle.rrd_file.specs.Layout.{entry_pieces}

-- ---- stages within an entry

-- a record of an entry that is due, with the values that its rule needs
pub data DueInEntry : Type 0 where
  -- an update's last time; then the values of each data source at that time
  TimeDue : DueInEntry
  BeforeDue : ℕ → DsDef → DueInEntry
  -- for each archive a partial row for each data source, at that time, and this number of rows; the same for a removed
  -- archive, at the present last time
  RowPrepDue : ℕ → RraDef → DueInEntry
  RowsDue : ℕ → DueInEntry
  RowCellDue : DueInEntry
  -- the number of data sources that a tune named; then each of them, from the lowest number that it may have
  CountDue : DueInEntry
  NamedDue : ℕ → ℕ → DueInEntry
  -- the number of a resized archive; then its old number of rows
  NumberDue : DueInEntry
  OldRowsDue : ℕ → DueInEntry
  -- the number of a removed archive; then its settings
  RemovedNumberDue : DueInEntry
  RemovedHeadDue : DueInEntry

-- the bytes of a record
abbrev pub size_due : DueInEntry → ℕ
size_due TimeDue = 8
size_due (BeforeDue last def) = 36
size_due (RowPrepDue last def) = 20
size_due (RowsDue rows) = 4
size_due RowCellDue = 16
size_due CountDue = 2
size_due (NamedDue lowest more) = 79
size_due NumberDue = 2
size_due (OldRowsDue archive) = 4
size_due RemovedNumberDue = 2
size_due RemovedHeadDue = 13

-- the cells of `rows` rows
abbrev pub cells_due : ℕ → Outline → List DueInEntry
cells_due rows now = replicate (rows * length now.sources) RowCellDue

-- the records that an update to the present last time keeps of an archive
abbrev pub archive_due : ℕ → Outline → ℕ → RraDef → List DueInEntry
archive_due step now last def =
    let rows = min (rows_between step def last now.last) def.rows in
    replicate (length now.sources) (RowPrepDue last def) ++ RowsDue rows ∷ cells_due rows now

-- the records that are due first in an entry, by its tag
abbrev pub first_due : Tag → List DueInEntry
first_due AnUpdate = TimeDue ∷ []
first_due ATune = CountDue ∷ []
first_due AResize = NumberDue ∷ []
first_due AnAddition = []
first_due ARemoval = RemovedNumberDue ∷ []

-- the records that a record makes due directly after itself
abbrev pub named_due : ℕ → ℕ → List DueInEntry
named_due lowest zero = []
named_due lowest (suc more) = NamedDue lowest more ∷ []

abbrev pub behind : ℕ → Outline → DueInEntry → Piece → List DueInEntry
behind step now TimeDue (OfTime last) =
    map (BeforeDue last) now.sources ++ flat_map (archive_due step now last) now.archives
behind step now CountDue (OfCount count) = named_due 0 count
behind step now (NamedDue lowest more) (OfSavedSource old) = named_due (old.number + 1) more
behind step now NumberDue (OfNumber archive) = OldRowsDue archive ∷ []
behind step now (OldRowsDue archive) (OfRows rows) = cells_due rows now
behind step now RemovedNumberDue (OfNumber number) = RemovedHeadDue ∷ []
behind step now RemovedHeadDue (OfArchive def) =
    replicate (length now.sources) (RowPrepDue now.last def) ++ cells_due def.rows now
behind step now due piece = []

-- which record may come if one is due, checked by itself
abbrev pub Keeps : Limits → ℕ → Outline → DueInEntry → Piece → Type 0
Keeps limits step now TimeDue (OfTime last) = last < now.last
Keeps limits step now (BeforeDue last def) (OfRawAndPart raw part) =
    IsAccepted def.kind raw × IsPart Average (last % step) part
Keeps limits step now (RowPrepDue last def) (OfPrep part) = IsRowPart step last def part
Keeps limits step now (RowsDue rows) (OfRows count) = count ≡ rows
Keeps limits step now RowCellDue (OfCell cell) = IsBounded cell
Keeps limits step now CountDue (OfCount count) = (0 < count) × (count ≤ max_tuned)
Keeps limits step now (NamedDue lowest more) (OfSavedSource old) =
    (lowest ≤ old.number) × (old.number < length now.sources) × IsSavedSource limits old
Keeps limits step now NumberDue (OfNumber archive) = archive < length now.archives
Keeps limits step now (OldRowsDue archive) (OfRows rows) = AreOldRows limits now archive rows
Keeps limits step now RemovedNumberDue (OfNumber number) = IsRemovedNumber limits now number
Keeps limits step now RemovedHeadDue (OfArchive def) = AreRemovedSettings limits now def
Keeps limits step now due piece = ⊥

-- ---- stages of the whole file

pub data Stage : Type 0 where
  -- nothing was read; the mark was read; the version was read
  Start : Stage
  Marked : Stage
  Versioned : Version → Stage
  -- the header and a part of the body were read, with its complete entries
  Body : Filed → Stage
  -- and a part of an entry was read: its records so far, and those that are still due
  Within : Filed → List Piece → List DueInEntry → Stage

-- the bytes of a count in a header, and of a header
abbrev pub count_size : Version → ℕ
count_size One = 2
count_size Two = 4

abbrev pub header_size : Version → ℕ
header_size version = 16 + 2 * count_size version

abbrev pub body_size : Due → ℕ
body_size SourceDue = 97
body_size HeadDue = 13
body_size (PrepDue def) = 20
body_size CellDue = 16
body_size EntryDue = 1
body_size NothingDue = 0

abbrev pub within_size : List DueInEntry → ℕ
within_size [] = 0
within_size (due ∷ later) = size_due due

-- the number of bytes of the record that is due; 0 if no record is
unfoldable pub size : Stage → ℕ
size Start = 4
size Marked = 2
size (Versioned version) = header_size version
size (Body f) = body_size (due f)
size (Within f pieces due) = within_size due

-- the stage after these records of an entry: the records that are due, or, after the last record, the body with the
-- entry. The last record must complete an entry that may come: so the names are different after a tune is undone
abbrev pub GoesOn : Filed → List Piece → List DueInEntry → Stage → Type 0
GoesOn f pieces (due ∷ later) next = next ≡ Within f pieces (due ∷ later)
GoesOn f pieces [] next =
    (entry : Entry) × (entry_pieces entry ≡ pieces) × MayEntry f entry × (next ≡ Body (with_entry f entry))

-- entries for added and removed archives are allowed if the version allows them
abbrev pub IsTagWithin : Limits → Tag → Type 0
IsTagWithin limits AnUpdate = Unit {0}
IsTagWithin limits ATune = Unit {0}
IsTagWithin limits AResize = Unit {0}
IsTagWithin limits AnAddition = limits.allows_archive_changes ≡ true
IsTagWithin limits ARemoval = limits.allows_archive_changes ≡ true

pub record MayTag (f : Filed) (tag : Tag) : Type 0 where
  pub is_due : due f ≡ EntryDue
  pub within : IsTagWithin (limits f) tag

-- a record may come at a stage, and leads to the next stage
unfoldable pub Takes : Stage → Piece → Stage → Type 0
Takes Start Mark next = next ≡ Marked
Takes Marked (OfVersion version) next = next ≡ Versioned version
Takes (Versioned version) (OfHeader h) next = (h.version ≡ version) × IsHeader h × (next ≡ Body (begun h))
Takes (Body f) (OfSource s) next = MaySource f s × (next ≡ Body (with_source f s))
Takes (Body f) (OfArchive def) next = MayHead f def × (next ≡ Body (with_head f def))
Takes (Body f) (OfPrep part) next = MayPrep f part × (next ≡ Body (with_prep f part))
Takes (Body f) (OfCell cell) next = MayCell f cell × (next ≡ Body (with_cell f cell))
Takes (Body f) (OfTag tag) next = MayTag f tag × GoesOn f (OfTag tag ∷ []) (first_due tag) next
Takes (Within f pieces (due ∷ later)) piece next =
    let now = outline_left f in
    Keeps (limits f) f.header.step now due piece
    × GoesOn f (pieces ++ piece ∷ []) (behind f.header.step now due piece ++ later) next
Takes stage piece next = ⊥

-- records that may come one after another lead from a stage to a stage
abbrev pub Runs : Stage → List Piece → Stage → Type 0
Runs from [] to = from ≡ to
Runs from (piece ∷ pieces) to = (next : Stage) × Takes from piece next × Runs next pieces to
