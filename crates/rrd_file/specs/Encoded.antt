-- Definition: the bytes of a file that stay in memory; and, as glue, the rows and cells among them (own).
use Rattle.std.specs.Prelude.{◌≡◌, ℕ, ◌+◌, ◌-◌, ◌<◌, List, [], ◌∷◌, ◌++◌, length, map, slice_index_or}
use Rattle.rrd_file.specs.Names.{AddsEntries, AllByRecursion, flat_map, Cell, filed, header_of, all_cells, cells_by_slot, Rra, Content, Stored, HasOneEach, IsLater, MovesOn, newest, IsValid}
use Rattle.rrd_file.specs.Layout.{entry_pieces, head_pieces, row_pieces, spelled}
use Rattle.rrd_file.specs.Layout.Pieces.{Mark, OfCell, OfHeader, OfSource, OfVersion}
use Rattle.rrd_file.specs.declared.encoded.Encoded.{Encoded}

-- ---- a file in three parts

-- what is before the cells: the header, the data sources, and the headers of the archives
abbrev pub front_bytes : Stored → List ℕ
front_bytes d =
    spelled (Mark ∷ OfVersion newest ∷ OfHeader (header_of newest d) ∷ [])
    ++ (spelled (map OfSource (filed newest d).sources) ++ spelled (flat_map head_pieces (filed newest d).heads))

-- the cells of all archives
abbrev pub cell_bytes : Content → List ℕ
cell_bytes content = spelled (map OfCell (all_cells content))

-- the journal
abbrev pub journal_bytes : Stored → List ℕ
journal_bytes d = spelled (flat_map entry_pieces d.journal)

-- the bytes that stay in memory
abbrev pub bytes_in : Encoded → List ℕ
bytes_in e = e.bytes.items

-- the bytes are the file of the database, and the offsets are those of its cells
pub record Encodes (e : Encoded) (d : Stored) : Type 0 where
  pub bytes_are : e.bytes.items ≡ front_bytes d ++ (cell_bytes d.content ++ journal_bytes d)
  pub cells_begin : e.cells_at ≡ length (front_bytes d)
  pub cells_end : e.cells_end ≡ e.cells_at + length (cell_bytes d.content)
  pub last_is : e.last ≡ d.content.last

-- the bytes are the file of a database that became this one by as many updates
pub record Precedes (e : Encoded) (updates : ℕ) (now : Stored) : Type 0 where
  pub before : Stored
  pub encodes : Encodes e before
  pub valid : IsValid before.content
  pub later : IsLater before.content now.content
  pub adds : AddsEntries updates before now

-- the bytes are the journal of a database that became this one by as many updates
pub record HoldsJournal (bytes : List ℕ) (updates : ℕ) (now : Stored) : Type 0 where
  pub before : Stored
  pub bytes_are : bytes ≡ journal_bytes before
  pub adds : AddsEntries updates before now

-- ---- cells of an earlier time, of which some stay

-- the bytes of rows, one after another
abbrev pub row_bytes : List (List Cell) → List ℕ
row_bytes rows = spelled (row_pieces rows)

-- the bytes are those of as many rows as there are from index `from` to before `to`; those with an index below `kept` are
-- these rows
pub record HoldsRows (bytes : List ℕ) (rows : List (List Cell)) (sources from to kept : ℕ) : Type 0 where
  pub before : List (List Cell)
  pub bytes_are : bytes ≡ row_bytes before
  pub as_many : length before ≡ to - from
  pub wide : AllByRecursion (HasOneEach sources) before
  pub same :
      (i : ℕ) → i < to - from → from + i < kept → slice_index_or before i [] ≡ slice_index_or rows (from + i) []

-- the bytes are the cells of an archive at an earlier time
pub record HoldsSlots (bytes : List ℕ) (now : Content) (last : ℕ) (archive : Rra) : Type 0 where
  pub before : Rra
  pub bytes_are : bytes ≡ spelled (map OfCell (cells_by_slot now.step last before))
  pub wide : AllByRecursion (HasOneEach (length now.sources)) before.rows
  pub earlier : last < now.last
  pub moved : MovesOn now.step last now.last before archive

-- the bytes are the cells of all archives at an earlier time
pub record HoldsCells (bytes : List ℕ) (now : Content) (last : ℕ) : Type 0 where
  pub before : Content
  pub bytes_are : bytes ≡ cell_bytes before
  pub valid : IsValid before
  pub last_is : last ≡ before.last
  pub later : IsLater before now

-- the same, after as many bytes as these
pub record HoldsBeforeJournal (bytes front : List ℕ) (now : Content) (last : ℕ) : Type 0 where
  pub old_front : List ℕ
  pub cells : List ℕ
  pub bytes_are : bytes ≡ old_front ++ cells
  pub as_long : length old_front ≡ length front
  pub held : HoldsCells cells now last
