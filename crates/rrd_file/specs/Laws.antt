-- Law: theorems on the layout, for any file.
use Rattle.std.specs.Prelude.{◌≡◌, ℕ, ◌-◌, ◌<◌, ◌≤◌, List, [], ◌∷◌, ◌++◌, length, take, None, Result, Ok}
use Rattle.rrd_file.specs.Names.{Cell, Raw, Part, RraDef, SavedSource, DatabaseChange, Entry, Filed, Source, MayEntry, Stored, changed, reverted, Version, verdict}
use Rattle.rrd_file.specs.Encoded.{Encodes, bytes_in}
use Rattle.rrd_file.specs.declared.encoded.Encoded.{Encoded}
use Rattle.rrd_file.specs.declared.fault.FileFault.{FileFault}
use Rattle.rrd_file.specs.declared.fault.FileFault.TheVariants.{NotOurs, Version as WrongVersion, Truncated, BadBlock, BadEntry, Trailing, Read, OutOfMemory}
pub use Rattle.rrd_file.specs.Faults.{IsAnswer, IsFault, IsFile, IsOfFile, IsValidIn, IsValidStored}
use Rattle.rrd_file.specs.End.{file_end}
use Rattle.rrd_file.specs.Layout.{entry_pieces, layout, layout_in}
use Rattle.rrd_file.specs.Layout.Pieces.{Piece, OfSource, OfArchive, OfPrep, OfCell, OfRawAndPart, OfSavedSource, spell}
use Rattle.rrd_file.specs.Layout.Fitting.{FitsArchive, FitsCell, FitsSavedSource, FitsPart, FitsRaw, FitsSource}
use Rattle.rrd_file.specs.Stages.{Runs, Stage, Start, Takes, size}

-- a record that may come has as many bytes as are due
abbrev pub PiecesHaveTheirSize : Type 0
PiecesHaveTheirSize =
    (stage : Stage) (piece : Piece) (next : Stage) → Takes stage piece next → length (spell piece) ≡ size stage

-- no two records that may come at a stage of a file have the same bytes
abbrev pub PiecesHaveOneSpelling : Type 0
PiecesHaveOneSpelling =
    (before : List Piece) (stage : Stage) (p q : Piece) (n m : Stage) → Runs Start before stage
    → Takes stage p n → Takes stage q m → spell p ≡ spell q → p ≡ q

-- values that fit their bytes, and have the same bytes, are equal
pub record ValuesHaveOneSpelling : Type 0 where
  pub source : (a b : Source) → FitsSource a → FitsSource b → spell (OfSource a) ≡ spell (OfSource b) → a ≡ b
  pub archive : (a b : RraDef) → FitsArchive a → FitsArchive b → spell (OfArchive a) ≡ spell (OfArchive b) → a ≡ b
  pub prep : (a b : Part) → FitsPart a → FitsPart b → spell (OfPrep a) ≡ spell (OfPrep b) → a ≡ b
  pub cell : (a b : Cell) → FitsCell a → FitsCell b → spell (OfCell a) ≡ spell (OfCell b) → a ≡ b
  pub raw_and_part :
      (r s : Raw) (a b : Part) → FitsRaw r → FitsRaw s → FitsPart a → FitsPart b
      → spell (OfRawAndPart r a) ≡ spell (OfRawAndPart s b) → (r ≡ s) × (a ≡ b)
  pub saved_source :
      (a b : SavedSource) → FitsSavedSource a → FitsSavedSource b
      → spell (OfSavedSource a) ≡ spell (OfSavedSource b) → a ≡ b

-- no two entries that may come after the same records have the same records
abbrev pub EntriesHaveOneSpelling : Type 0
EntriesHaveOneSpelling =
    (f : Filed) (x y : Entry) → MayEntry f x → MayEntry f y → entry_pieces x ≡ entry_pieces y → x ≡ y

-- ---- databases

-- the bytes that stay in memory for a database are its layout
abbrev pub EncodedIsLayout : Encoded → Stored → Type 0
EncodedIsLayout e d = Encodes e d → bytes_in e ≡ layout d

-- an input has one result that depends on the input alone
abbrev pub HasOneAnswer : List ℕ → Type 0
HasOneAnswer bytes =
    (x y : Result Stored FileFault) → IsAnswer bytes x → IsAnswer bytes y → IsOfFile x → IsOfFile y → x ≡ y

-- a fault at a record that is complete, or at a byte that follows the last record: not at the end of the bytes, and not of
-- the reader or of memory
abbrev pub IsSettled : FileFault → Type 0
IsSettled NotOurs = Unit {0}
IsSettled WrongVersion = Unit {0}
IsSettled (Truncated at) = ⊥
IsSettled (BadBlock at) = Unit {0}
IsSettled (BadEntry number) = Unit {0}
IsSettled (Trailing at) = Unit {0}
IsSettled Read = ⊥
IsSettled OutOfMemory = ⊥

-- if a first part of the bytes has such a fault, all of the bytes have the same fault
abbrev pub FrontHasTheFault : List ℕ → List ℕ → FileFault → Type 0
FrontHasTheFault front rest fault = IsSettled fault → IsFault front fault → IsFault (front ++ rest) fault

-- the file of a database has at least 16 bytes, and begins with the letters RRDI
abbrev pub FileBegins : List ℕ → Stored → Type 0
FileBegins bytes d = IsFile bytes d → (16 ≤ length bytes) × (take 4 bytes ≡ 82 ∷ 82 ∷ 68 ∷ 73 ∷ [])

-- the layout of a valid database in a version is the file of this database, and of no other
abbrev pub LayoutIsItsFile : Version → Stored → Type 0
LayoutIsItsFile version d = IsValidIn version d → IsAnswer (layout_in version d) (Ok d)

abbrev pub LayoutIsNoOther : Version → Stored → Type 0
LayoutIsNoOther version d =
    IsValidIn version d → (x : Result Stored FileFault) → IsAnswer (layout_in version d) x → IsOfFile x → x ≡ Ok d

-- the file of a database is its layout, in the file's version
abbrev pub FileIsLayout : List ℕ → Stored → Type 0
FileIsLayout bytes d = (file : IsFile bytes d) → bytes ≡ layout_in file.version d

-- different valid databases have different layouts, within a version and between versions, and no layout is a prefix of
-- another
abbrev pub NoFrontOfAnother : Version → Version → Stored → Stored → List ℕ → Type 0
NoFrontOfAnother v w d e more =
    IsValidIn v d → IsValidIn w e → layout_in v d ++ more ≡ layout_in w e → (v ≡ w) × (d ≡ e) × (more ≡ [])

-- the end of the file of a database is found, whatever bytes follow it
abbrev pub EndIsFound : List ℕ → Stored → Type 0
EndIsFound bytes d = IsFile bytes d → (rest : List ℕ) → file_end (bytes ++ rest) ≡ length bytes

-- a revert of an accepted command restores the file, byte by byte, except the oldest entry of a full journal
abbrev pub RevertRestoresBytes : Stored → DatabaseChange → Type 0
RevertRestoresBytes d command =
    let after = changed d command in
    let back = reverted after.content after.journal in
    IsValidStored d → verdict d.content command ≡ None → length d.journal < d.content.depth → layout back ≡ layout d

abbrev pub RevertRestoresBytesButOldest : Stored → DatabaseChange → Type 0
RevertRestoresBytesButOldest d command =
    let after = changed d command in
    let back = reverted after.content after.journal in
    IsValidStored d → verdict d.content command ≡ None
    → layout back ≡ layout (record d { journal = take (d.content.depth - 1) d.journal })
