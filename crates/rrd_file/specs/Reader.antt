-- Glue: the facts about an input, some of whose bytes wait in a buffer.
use Rattle.std.specs.Prelude.{◌≡◌, ◌+◌, ◌^◌, ◌<◌, ℕ, List, length, Option, Result, Ok, Err, ⊤, IfSome}
use Rattle.rrd_file.specs.Names.{Consumes, IsAtEnd, prepend_known}
use Rattle.rrd_file.specs.declared.fault.FileFault.{FileFault}
use Rattle.rrd_file.specs.declared.fault.FileFault.TheVariants.{NotOurs, Version, Truncated, BadBlock, BadEntry, Trailing, Read, OutOfMemory}
pub mod Waiting

-- the bytes that were read and not taken, the bytes that the reader has left, if they are known, and the offset of the
-- next record
pub record Input : Type 0 where
  pub waiting : List ℕ
  pub behind : Option (List ℕ)
  pub at : ℕ

-- the bytes that are left
abbrev pub left : Input → Option (List ℕ)
left input = prepend_known input.waiting input.behind

-- a read that gave no byte found the end
abbrev pub FindsEnd : ℕ → Input → Type 0
FindsEnd count input = count ≡ 0 → IsAtEnd input.behind

-- the errors for a record of `size` bytes: the input ends before its end, or the reader failed
abbrev pub IsCut : Input → ℕ → FileFault → Type 0
IsCut old size (Truncated at) = IfSome (left old) (λ rest. (length rest < size) × (at ≡ old.at + length rest))
IsCut old size Read = ⊤
IsCut old size NotOurs = ⊥
IsCut old size Version = ⊥
IsCut old size (BadBlock at) = ⊥
IsCut old size (BadEntry number) = ⊥
IsCut old size (Trailing at) = ⊥
IsCut old size OutOfMemory = ⊥

-- the bytes were taken
pub record Gives (old : Input) (piece : List ℕ) (new : Input) : Type 0 where
  pub consumed : Consumes (left old) (left new) piece
  pub advanced : new.at ≡ old.at + length piece
  pub bounded : new.at < 2 ^ 64

-- a whole record was read, or the input was cut
abbrev pub ReadsPiece : Input → List ℕ → Input → Result (Unit {0}) FileFault → Type 0
ReadsPiece old piece new (Ok x) = Gives old piece new
ReadsPiece old piece new (Err fault) = IsCut old (length piece) fault

-- the next record has a later offset
abbrev pub Advances : Input → Input → Type 0
Advances old new = (old.at < new.at) × (new.at < 2 ^ 64)
