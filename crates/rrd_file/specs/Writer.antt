-- Glue: the bytes that a call adds to a writer in which bytes wait before they are written.
use Rattle.std.specs.Prelude.{◌≡◌, ◌++◌, ℕ, List, Option, Result, Ok, Err}
use Rattle.rrd_file.specs.Names.{Appends, AppendsFront, WriteFault}
use Rattle.rrd_file.specs.declared.writer.PieceWriter.{PieceWriter}

-- bs was added after the waiting bytes: a part of both was written, and the rest waits now
pub record Adds {W : Type 0} (contents : W → Option (List ℕ)) (old new : PieceWriter W) (bs : List ℕ) : Type 0 where
  pub same_reference : new.out.ghost_name ≡ old.out.ghost_name
  pub written : List ℕ
  pub appends : Appends (contents old.out.now) (contents new.out.now) written
  pub whole : written ++ new.block ≡ old.block ++ bs

-- a prefix of the waiting bytes and bs was written, and not all of them
pub record Breaks {W : Type 0} (contents : W → Option (List ℕ)) (old new : PieceWriter W) (bs : List ℕ) : Type 0 where
  pub same_reference : new.out.ghost_name ≡ old.out.ghost_name
  pub front : AppendsFront (contents old.out.now) (contents new.out.now) (old.block ++ bs)

-- at Ok bs was added; at an error a prefix is written
abbrev pub Gathers : {W T : Type 0} → (W → Option (List ℕ)) → PieceWriter W → PieceWriter W → List ℕ → Result T WriteFault → Type 0
Gathers contents old new bs (Ok x) = Adds contents old new bs
Gathers contents old new bs (Err e) = Breaks contents old new bs
