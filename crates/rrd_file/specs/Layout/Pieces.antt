-- Definition: the records of a file, each with its bytes.
use Rattle.std.specs.Prelude.{ℕ, List, [], ◌∷◌, ◌++◌}
use Rattle.rrd_file.specs.Names.{Cell, Raw, Part, RraDef, SavedSource, Version, One, Two, Header, Source}
use Rattle.rrd_file.specs.Layout.Values.{archive_bytes, cell_bytes, eight_bytes, four_bytes, part_bytes, raw_bytes, source_bytes, two_bytes}

-- the kind of change that an entry undoes
pub data Tag : Type 0 where
  AnUpdate : Tag
  ATune : Tag
  AResize : Tag
  AnAddition : Tag
  ARemoval : Tag

pub data Piece : Type 0 where
  -- records of the body
  Mark : Piece
  OfVersion : Version → Piece
  OfHeader : Header → Piece
  OfSource : Source → Piece
  OfArchive : RraDef → Piece
  OfPrep : Part → Piece
  OfCell : Cell → Piece
  -- records of an entry, which also has partial rows and cells: its tag
  OfTag : Tag → Piece
  -- the last time before an update, the raw value and the partial step of a data source before it, and a number of rows
  OfTime : ℕ → Piece
  OfRawAndPart : Raw → Part → Piece
  OfRows : ℕ → Piece
  -- the number of data sources that a tune named, and each data source before the tune
  OfCount : ℕ → Piece
  OfSavedSource : SavedSource → Piece
  -- the number of the archive that was resized or removed
  OfNumber : ℕ → Piece

abbrev pub version_number : Version → ℕ
version_number One = 1
version_number Two = 2

abbrev pub tag_byte : Tag → ℕ
tag_byte AnUpdate = 1
tag_byte ATune = 2
tag_byte AResize = 3
tag_byte AnAddition = 4
tag_byte ARemoval = 5

-- the number of entries that there are, or that there can be
abbrev pub count_bytes : Version → ℕ → List ℕ
count_bytes One n = two_bytes n
count_bytes Two n = four_bytes n

-- step (4), last time (8), depth, data sources (2), archives (2), entries
abbrev pub header_bytes : Version → Header → List ℕ
header_bytes version h =
    four_bytes h.step ++ eight_bytes h.last
    ++ count_bytes version h.depth ++ two_bytes h.sources ++ two_bytes h.archives ++ count_bytes version h.entries

-- the bytes of a record
unfoldable pub spell : Piece → List ℕ
-- the letters RRDI
spell Mark = 82 ∷ 82 ∷ 68 ∷ 73 ∷ []
spell (OfVersion version) = two_bytes (version_number version)
spell (OfHeader h) = header_bytes h.version h
spell (OfSource s) = source_bytes s.def ++ raw_bytes s.raw ++ part_bytes s.part
spell (OfArchive def) = archive_bytes def
spell (OfPrep part) = part_bytes part
spell (OfCell cell) = cell_bytes cell
spell (OfTag tag) = tag_byte tag ∷ []
spell (OfTime time) = eight_bytes time
spell (OfRawAndPart raw part) = raw_bytes raw ++ part_bytes part
spell (OfRows rows) = four_bytes rows
spell (OfCount count) = two_bytes count
spell (OfSavedSource old) = two_bytes old.number ++ source_bytes old.source ++ raw_bytes old.raw
spell (OfNumber number) = two_bytes number
