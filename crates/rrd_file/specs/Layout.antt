-- Definition: the layout of a database with its journal: its records, one after another.
use Rattle.std.specs.Prelude.{ℕ, List, [], ◌∷◌, ◌++◌, length, map}
use Rattle.rrd_file.specs.Names.{flat_map, Cell, Raw, Part, Entry, SavedArchive, UpdateEntry, TuneEntry, ResizeEntry, AddedEntry, RemovedEntry, Version, Filed, Head, filed, Stored, newest}
use Rattle.rrd_file.specs.Layout.Pieces.{Piece, Mark, OfVersion, OfHeader, OfSource, OfArchive, OfPrep, OfCell, OfTag, OfTime, OfRawAndPart, OfRows, OfCount, OfSavedSource, OfNumber, AnUpdate, ATune, AResize, AnAddition, ARemoval, spell}
pub mod Values
pub mod Pieces
pub mod Fitting

-- ---- the body

-- an archive's header: its settings, and a partial row for each data source
abbrev pub head_pieces : Head → List Piece
head_pieces head = OfArchive head.def ∷ map OfPrep head.parts

-- all archive headers come before the first cell
abbrev pub body_pieces : Filed → List Piece
body_pieces f = map OfSource f.sources ++ flat_map head_pieces f.heads ++ map OfCell f.cells

-- ---- entries

-- rows, oldest first, each with its cells by data source
abbrev pub row_pieces : List (List Cell) → List Piece
row_pieces rows = flat_map (λ (row : List Cell). map OfCell row) rows

abbrev pub raws_and_parts : List Raw → List Part → List Piece
raws_and_parts (raw ∷ raws) (part ∷ parts) = OfRawAndPart raw part ∷ raws_and_parts raws parts
raws_and_parts _ _ = []

-- the values that an update replaced in an archive: partial rows, the number of rows, and those rows
abbrev pub saved_pieces : SavedArchive → List Piece
saved_pieces old = map OfPrep old.parts ++ OfRows (length old.rows) ∷ row_pieces old.rows

abbrev pub entry_pieces : Entry → List Piece
entry_pieces (UpdateEntry old) =
    OfTag AnUpdate ∷ OfTime old.last ∷ raws_and_parts old.raws old.parts ++ flat_map saved_pieces old.archives
entry_pieces (TuneEntry olds) = OfTag ATune ∷ OfCount (length olds) ∷ map OfSavedSource olds
entry_pieces (ResizeEntry archive rows) = OfTag AResize ∷ OfNumber archive ∷ OfRows (length rows) ∷ row_pieces rows
entry_pieces AddedEntry = OfTag AnAddition ∷ []
-- the settings of the archive have its number of rows
entry_pieces (RemovedEntry number archive) =
    OfTag ARemoval ∷ OfNumber number ∷ OfArchive archive.def ∷ (map OfPrep archive.parts ++ row_pieces archive.rows)

-- ---- the whole file

-- the bytes of records
abbrev pub spelled : List Piece → List ℕ
spelled pieces = flat_map spell pieces

abbrev pub pieces_filed : Filed → List Piece
pieces_filed f =
    Mark ∷ OfVersion f.header.version ∷ OfHeader f.header ∷ body_pieces f ++ flat_map entry_pieces f.entries

-- the layout in a version
abbrev pub layout_in : Version → Stored → List ℕ
layout_in version d = spelled (pieces_filed (filed version d))

-- the layout that is written
abbrev pub layout : Stored → List ℕ
layout d = layout_in newest d
