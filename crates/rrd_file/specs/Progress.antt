-- Glue: how far an input was read.
use Rattle.std.specs.Prelude.{◌≡◌, ◌+◌, ◌<◌, ℕ, suc, List, [], ◌++◌, length, Some, Result, Ok, Err}
use Rattle.rrd_file.specs.Names.{Filed, entry_of}
use Rattle.rrd_file.specs.declared.fault.FileFault.{FileFault}
use Rattle.rrd_file.specs.declared.fault.FileFault.TheVariants.{BadEntry}
use Rattle.rrd_base.specs.declared.journal.Entry.{Entry as EntryRead}
use Rattle.rrd_file.specs.Faults.{Front, IsFault, IsWhole, bad_at}
use Rattle.rrd_file.specs.Reader.{Input, left}
use Rattle.rrd_file.specs.Layout.{entry_pieces}
use Rattle.rrd_file.specs.Layout.Pieces.{Piece, spell}
use Rattle.rrd_file.specs.Stages.{DueInEntry, GoesOn, Stage, Takes, size}

-- the bytes that were read lead to the stage, and the rest is left
pub record Stands (bytes : List ℕ) (stage : Stage) (input : Input) : Type 0 where
  pub rest : List ℕ
  pub front : Front bytes stage rest
  pub left_is : left input ≡ Some rest
  pub place : input.at + length rest ≡ length bytes

-- a step leads to a stage, or to the input's error
abbrev pub Reaches : {T : Type 0} → List ℕ → (T → Stage) → Input → Result T FileFault → Type 0
Reaches bytes stage input (Ok x) = Stands bytes (stage x) input
Reaches bytes stage input (Err fault) = IsFault bytes fault

-- of an entry, these records were read after the body, and these are still due; if none is due, the last record is
-- correct if all records make an entry that may come
pub record Comes (bytes : List ℕ) (f : Filed) (pieces : List Piece) (dues : List DueInEntry) (at : Input) : Type 0 where
  pub rest : List ℕ
  -- the stage before the last record
  pub stage : Stage
  pub last : Piece
  pub front : Front bytes stage (spell last ++ rest)
  pub some : 0 < length (spell last)
  pub whole : length (spell last) ≡ size stage
  pub goes_on : (next : Stage) → GoesOn f pieces dues next → Takes stage last next
  pub only : (q : Piece) (next : Stage) → Takes stage q next → spell q ≡ spell last → GoesOn f pieces dues next
  pub fault_is : (offset : ℕ) → BadEntry (suc (length f.entries)) ≡ bad_at stage offset
  pub left_is : left at ≡ Some rest
  pub place : at.at + length rest ≡ length bytes

-- a step reads further records of an entry, or leads to the input's error
abbrev pub Brings : {T : Type 0} → List ℕ → Filed → (T → List Piece) → (T → List DueInEntry) → Input
    → Result T FileFault → Type 0
Brings bytes f pieces dues input (Ok x) = Comes bytes f (pieces x) (dues x) input
Brings bytes f pieces dues input (Err fault) = IsFault bytes fault

-- all records of an entry were read, or the step leads to the input's error
abbrev pub Closes : List ℕ → Filed → Input → Result EntryRead FileFault → Type 0
Closes bytes f input result = Brings bytes f (λ entry. entry_pieces (entry_of entry)) (λ entry. []) input result

-- the end was expected after all records, and is there, or the step leads to the input's error
abbrev pub Ends : {T : Type 0} → List ℕ → Filed → Result T FileFault → Type 0
Ends bytes f (Ok x) = IsWhole bytes f
Ends bytes f (Err fault) = IsFault bytes fault
