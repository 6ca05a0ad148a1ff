-- Definition: the bytes that a call writes, with either result.
use Rattle.std.specs.Prelude.{◌≡◌, ◌++◌, ◌∷◌, ℕ, List, Option, Result, Ok, Err}
use Rattle.std.specs.Io.KnownBytes.{Appends}
use Rattle.rrd_fixed.specs.declared.streams.WriteFault.{WriteFault}

-- a prefix of bs was written, and not all of it
abbrev pub AppendsFront : Option (List ℕ) → Option (List ℕ) → List ℕ → Type 0
AppendsFront old new bs =
    (front : List ℕ) × (next : ℕ) × (rest : List ℕ) × (bs ≡ front ++ next ∷ rest) × Appends old new front

-- at Ok exactly bs was written; at an error a prefix of bs, and not all of it
abbrev pub Writes : {T : Type 0} → Option (List ℕ) → Option (List ℕ) → List ℕ → Result T WriteFault → Type 0
Writes old new bs (Ok x) = Appends old new bs
Writes old new bs (Err e) = AppendsFront old new bs
