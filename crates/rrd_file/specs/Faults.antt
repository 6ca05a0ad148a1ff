-- Definition: the result of reading a file: its database, or the first error in file order.
use Rattle.std.specs.Prelude.{◌≡◌, ◌≢◌, ◌+◌, ◌<◌, ◌≤◌, ℕ, suc, List, [], ◌++◌, length, take, Result, Ok, Err, ⊤}
use Rattle.rrd_file.specs.Names.{flat_map, Version, Filed, filed, SourceDue, HeadDue, PrepDue, CellDue, EntryDue, NothingDue, due, Due, Stored, limits_of, IsValidDatabase, IsValidDatabaseWithin}
use Rattle.rrd_file.specs.declared.fault.FileFault.{FileFault}
use Rattle.rrd_file.specs.declared.fault.FileFault.TheVariants.{NotOurs, Version as WrongVersion, Truncated, BadBlock, BadEntry, Trailing, Read, OutOfMemory}
use Rattle.rrd_file.specs.Layout.Pieces.{Piece, spell}
use Rattle.rrd_file.specs.Stages.{Stage, Start, Marked, Versioned, Body, Within, Runs, Takes, size}
pub mod Texts

-- the input up to the rest consists of correct records, which lead to the stage
pub record Front (bytes : List ℕ) (stage : Stage) (rest : List ℕ) : Type 0 where
  pub pieces : List Piece
  pub runs : Runs Start pieces stage
  pub parts : bytes ≡ flat_map spell pieces ++ rest

-- the error of a record of the body at an offset, or of an entry's tag
abbrev pub bad_in_body : Filed → ℕ → Due → FileFault
bad_in_body f at EntryDue = BadEntry (suc (length f.entries))
bad_in_body f at SourceDue = BadBlock at
bad_in_body f at HeadDue = BadBlock at
bad_in_body f at (PrepDue def) = BadBlock at
bad_in_body f at CellDue = BadBlock at
bad_in_body f at NothingDue = BadBlock at

-- the error of the record that is due at the stage, at an offset
abbrev pub bad_at : Stage → ℕ → FileFault
bad_at Start at = NotOurs
bad_at Marked at = WrongVersion
bad_at (Versioned version) at = BadBlock at
bad_at (Body f) at = bad_in_body f at (due f)
bad_at (Within f pieces due) at = BadEntry (suc (length f.entries))

-- the record that is due is complete, and is not one that may come
pub record IsBad (bytes : List ℕ) (fault : FileFault) : Type 0 where
  pub stage : Stage
  pub rest : List ℕ
  pub front : Front bytes stage rest
  pub is_due : 0 < size stage
  pub whole : size stage ≤ length rest
  pub none : (piece : Piece) (next : Stage) → Takes stage piece next → spell piece ≢ take (size stage) rest
  pub at : ℕ
  pub place : at + length rest ≡ length bytes
  pub fault_is : fault ≡ bad_at stage at

-- the input ends before the record that is due is complete
pub record IsTruncated (bytes : List ℕ) (at : ℕ) : Type 0 where
  pub stage : Stage
  pub rest : List ℕ
  pub front : Front bytes stage rest
  pub short : length rest < size stage
  pub at_is : at ≡ length bytes

-- no record is due, and bytes are left
pub record IsTrailing (bytes : List ℕ) (at : ℕ) : Type 0 where
  pub stage : Stage
  pub rest : List ℕ
  pub front : Front bytes stage rest
  pub done : size stage ≡ 0
  pub some : 0 < length rest
  pub place : at + length rest ≡ length bytes

-- all records came, and no byte is left
pub record IsWhole (bytes : List ℕ) (f : Filed) : Type 0 where
  pub front : Front bytes (Body f) []
  pub done : size (Body f) ≡ 0

-- a valid database
abbrev pub IsValidStored : Stored → Type 0
IsValidStored d = IsValidDatabase d.content d.journal

-- a database that is valid within the limits of a version of the layout
abbrev pub IsValidIn : Version → Stored → Type 0
IsValidIn version d = IsValidDatabaseWithin (limits_of version) d.content d.journal

-- the input is the file of a database in a version, and the database is valid within the limits of that version
pub record IsFile (bytes : List ℕ) (d : Stored) : Type 0 where
  pub version : Version
  pub whole : IsWhole bytes (filed version d)
  pub valid : IsValidIn version d

abbrev pub IsFault : List ℕ → FileFault → Type 0
IsFault bytes NotOurs = IsBad bytes NotOurs
IsFault bytes WrongVersion = IsBad bytes WrongVersion
IsFault bytes (Truncated at) = IsTruncated bytes at
IsFault bytes (BadBlock at) = IsBad bytes (BadBlock at)
IsFault bytes (BadEntry number) = IsBad bytes (BadEntry number)
IsFault bytes (Trailing at) = IsTrailing bytes at
-- the reader failed, or memory ran out: the records before were correct, but nothing in the input says when this
-- happens
IsFault bytes Read = ⊤
IsFault bytes OutOfMemory = ⊤

-- the result for an input
abbrev pub IsAnswer : List ℕ → Result Stored FileFault → Type 0
IsAnswer bytes (Ok d) = IsFile bytes d
IsAnswer bytes (Err fault) = IsFault bytes fault

-- a result that depends on the input alone: a database or an error, but no failure of the reader or of memory
abbrev pub IsOfFile : Result Stored FileFault → Type 0
IsOfFile (Ok d) = Unit {0}
IsOfFile (Err NotOurs) = Unit {0}
IsOfFile (Err WrongVersion) = Unit {0}
IsOfFile (Err (Truncated at)) = Unit {0}
IsOfFile (Err (BadBlock at)) = Unit {0}
IsOfFile (Err (BadEntry number)) = Unit {0}
IsOfFile (Err (Trailing at)) = Unit {0}
IsOfFile (Err Read) = ⊥
IsOfFile (Err OutOfMemory) = ⊥
