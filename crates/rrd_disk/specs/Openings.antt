-- Glue: what the result of opening a file says of the file.
use Rattle.std.specs.Prelude.{◌≡◌, ℕ, IsTrue, List, length, Option, Some, None, ⊤}
use Rattle.rrd_disk.specs.Events.{Event}
use Rattle.rrd_disk.specs.Replayed.{World, bytes_after, held_after, is_honest_after}
use Rattle.rrd_store.specs.Storages.{Bytes, Missing as NoFile}
use Rattle.rrd_change.specs.Settled.{mark_of}
use Rattle.rrd_disk.specs.declared.opening.Opened.{Opened}
use Rattle.rrd_disk.specs.declared.opening.Opened.TheVariants.{Regular, Pipe, Missing, Refused}

-- there is no file
abbrev pub IsNone : List Event → Type 0
IsNone events = (s : World) → IsTrue (is_honest_after s events) → held_after s events ≡ NoFile

-- there is a file
abbrev pub IsThere : List Event → Type 0
IsThere events = (s : World) → IsTrue (is_honest_after s events) → held_after s events ≡ Bytes (bytes_after s events)

-- the file has so many bytes
abbrev pub HasLength : ℕ → List Event → Type 0
HasLength count events = (s : World) → IsTrue (is_honest_after s events) → count ≡ length (bytes_after s events)

abbrev pub Says : {F P : Type 0} → Opened F P → List Event → Type 0
Says (Regular locked count) events = IsThere events × HasLength count events
Says (Pipe pipe) events = IsThere events
Says Missing events = IsNone events
Says (Refused error) events = ⊤

abbrev pub SaysIf : {F P : Type 0} → Option (Opened F P) → List Event → Type 0
SaysIf None events = ⊤
SaysIf (Some opened) events = Says opened events
