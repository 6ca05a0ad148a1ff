-- An entry that may come has pieces that no other such entry has.
use Rattle.std.proofs.Common.{arith}
use Rattle.std.specs.Prelude.{◌≡◌, List}
use Rattle.rrd_file.proofs.Names.{refl, Entry, Filed, MayEntry, entry_pieces, Piece, Stage, DueInEntry, GoesOn, Takes}
use Rattle.rrd_file.proofs.OneShape.{shaped_one, undo_shaped}
use Rattle.rrd_file.proofs.Ways.{Step, ToMark, ToVersion, ToHeader, ToSource, ToHead, ToPrep, ToCell, ToEntry, ToPiece, step_of}

pub one_entry : (f : Filed) (x y : Entry) → MayEntry f x → MayEntry f y → entry_pieces x ≡ entry_pieces y → x ≡ y
one_entry f x y h k e = shaped_one f x y (undo_shaped f x h) (undo_shaped f y k) e

-- ---- so a piece leads to one stage

goes_one : (f : Filed) (pieces : List Piece) (due : List DueInEntry) (n m : Stage) → GoesOn f pieces due n → GoesOn f pieces due m → n ≡ m
goes_one f pieces due n m g k = grind (arith, one_entry)

step_one : {s : Stage} {p : Piece} {n m : Stage} → Step s p n → Step s p m → n ≡ m
step_one ToMark ToMark = refl
step_one (ToVersion v) (ToVersion _) = refl
step_one (ToHeader v h same is) (ToHeader _ _ also has) = refl
step_one (ToSource f x h) (ToSource _ _ k) = refl
step_one (ToHead f x h) (ToHead _ _ k) = refl
step_one (ToPrep f x h) (ToPrep _ _ k) = refl
step_one (ToCell f x h) (ToCell _ _ k) = refl
step_one (ToEntry f tag n is_due goes) (ToEntry _ _ m due_is on) = goes_one f _ _ n m goes on
step_one (ToPiece f pieces due later p n w goes) (ToPiece _ _ _ _ _ m u on) = goes_one f _ _ n m goes on

pub one_next : (s : Stage) (p : Piece) (n m : Stage) → Takes s p n → Takes s p m → n ≡ m
one_next s p n m t w = step_one (step_of s p n t) (step_of s p m w)
