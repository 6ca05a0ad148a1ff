-- Glue: what is known in memory of a file.
use Rattle.std.specs.Prelude.{◌≡◌, ◌↔◌, ℕ, ◌≤◌, Bool, IsSome, IsTrue, List, length, take, Option, Some}
use Rattle.rrd_change.specs.Settled.{mark_of}
use Rattle.rrd_change.specs.declared.log.Base.{Base}
use Rattle.rrd_disk.specs.Events.{Event}
use Rattle.rrd_disk.specs.Fronts.{Begins}
use Rattle.rrd_disk.specs.Replayed.{World, bytes_after, is_honest_after}

-- the file begins with these bytes
abbrev pub ShowsBytes : List ℕ → List Event → Type 0
ShowsBytes bytes events = (s : World) → IsTrue (is_honest_after s events) → Begins (bytes_after s events) bytes

-- these are all bytes of the file
abbrev pub AreAll : List ℕ → List Event → Type 0
AreAll bytes events = (s : World) → IsTrue (is_honest_after s events) → bytes ≡ bytes_after s events

-- the file has this length, if it is known
abbrev pub Measures : Option ℕ → List Event → Type 0
Measures count events = (s : World) → IsTrue (is_honest_after s events) → (n : ℕ) → count ≡ Some n → n ≡ length (bytes_after s events)

-- whether the file begins with a mark
abbrev pub TellsMark : Bool → List Event → Type 0
TellsMark is events = (s : World) → IsTrue (is_honest_after s events) → IsTrue is ↔ IsSome (mark_of (bytes_after s events))

-- the length of the file, and its first sixteen bytes
abbrev pub TellsBase : Base → List Event → Type 0
TellsBase base events = (s : World) → IsTrue (is_honest_after s events) → (base.length ≡ length (bytes_after s events)) × (base.first ≡ take 16 (bytes_after s events))

-- the first sixteen bytes
pub record AreFirst (first bytes : List ℕ) : Type 0 where
  pub enough : 16 ≤ length bytes
  pub is : first ≡ take 16 bytes
