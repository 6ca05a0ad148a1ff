-- Definition: what is found of a file after a change.
use Rattle.std.specs.Prelude.{◌≡◌, ◌⊎◌, ℕ, List}
use Rattle.rrd_change.specs.Settled.{IsDelimited, settled}
use Rattle.rrd_change.specs.States.{IsDatabase, Represents, Tells}
use Rattle.rrd_change.specs.Views.{World}

-- the old bytes or the new ones
abbrev pub IsEither : List ℕ → List ℕ → List ℕ → Type 0
IsEither old new bytes = (bytes ≡ old) ⊎ (bytes ≡ new)

-- a database whose end is found
pub record IsWhole (end_of : List ℕ → ℕ) (bytes : List ℕ) : Type 0 where
  pub is : IsDatabase bytes
  pub ends : IsDelimited end_of bytes

-- a file that represents a database stands for it
abbrev pub RepresentedStands : (List ℕ → ℕ) → List ℕ → List ℕ → Type 0
RepresentedStands end_of now file = IsWhole end_of now → Represents now file → settled end_of file ≡ now

-- the file stands for bytes of which `P` holds, and so does whatever the power may leave of it
pub record AllStand (end_of : List ℕ → ℕ) (P : List ℕ → Type 0) (w : World) : Type 0 where
  pub held : P (settled end_of w.held)
  pub left : (c : List ℕ) → w.may_leave c → P (settled end_of c)
  pub later : (c : List ℕ) → w.may_keep c → P (settled end_of c)

-- the same, where the checksums of torn changes are wrong
pub record AllStandAsTold (end_of : List ℕ → ℕ) (P : List ℕ → Type 0) (w : World) : Type 0 where
  pub held : P (settled end_of w.held)
  pub left : (c : List ℕ) → w.may_leave c → Tells w.held c → P (settled end_of c)
  pub later : (c : List ℕ) → w.may_keep c → Tells w.held c → P (settled end_of c)
