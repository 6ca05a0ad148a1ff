-- Definition: what the disk may have of a file after the calls of a record: the bytes that a failure of the power may leave then, and
-- those that a sync may leave that ends well (own).
use Rattle.std.specs.Prelude.{◌≡◌, ◌⊎◌, ℕ, ◌+◌, ◌%◌, ◌≤◌, List, [], ◌∷◌, length}
use Rattle.rrd_change.specs.Calls.{AreAny, AreWholeOrNot, IsSizedOrNot}
use Rattle.rrd_change.specs.Views as views
use Rattle.rrd_disk.specs.Events.{Event, Put, PutFailed, Sized, SizeFailed, Synced, SyncFailed}
use Rattle.rrd_disk.specs.Replayed.{World, bytes_after, bytes_left, bytes_of, part_after}

-- ---- one call

-- a write of which the disk may have any part. But of a write within one sector it has all or nothing, if the file had bytes there
-- before: a premise about the disk
pub record AreTorn (at : ℕ) (bytes old new : List ℕ) : Type 0 where
  pub any : AreAny at (length bytes) old new
  pub whole : at % 512 + length bytes ≤ 512 → at + length bytes ≤ length old → AreWholeOrNot at bytes old new

-- the bytes that a call leaves on the disk, by those before
abbrev pub Leaves : (List ℕ → List ℕ → Type 0) → (List ℕ → Type 0) → List ℕ → Type 0
Leaves call before c = (b : List ℕ) × before b × call b c

-- the bytes that a sync would store after a call: the call did the same to them as to the file
abbrev pub Follows : ℕ → Event → (List ℕ → Type 0) → List ℕ → Type 0
Follows part event before c = (b : List ℕ) × before b × (c ≡ bytes_left b part event)

-- what one call makes of the disk; `held` are the bytes of the file after it. A sync that ends well stores what was written since
-- the last one that failed. After one that failed the system may count bytes as stored that the disk has not, so that no later
-- sync stores them
abbrev pub moved : List ℕ → ℕ → Event → views.World → views.World
moved held part (Put at bytes taken) w =
    record { held = held; may_leave = Leaves (AreTorn at bytes) w.may_leave; may_keep = Follows part (Put at bytes taken) w.may_keep }
moved held part (PutFailed at bytes) w =
    record { held = held; may_leave = Leaves (AreTorn at bytes) w.may_leave; may_keep = Follows part (PutFailed at bytes) w.may_keep }
moved held part (Sized count) w =
    record { held = held; may_leave = Leaves (IsSizedOrNot count) w.may_leave; may_keep = Follows part (Sized count) w.may_keep }
moved held part (SizeFailed count) w =
    record { held = held; may_leave = Leaves (IsSizedOrNot count) w.may_leave; may_keep = Follows part (SizeFailed count) w.may_keep }
moved held part Synced w = record { held = held; may_leave = w.may_keep; may_keep = w.may_keep }
moved held part SyncFailed w = record { held = held; may_leave = w.may_leave; may_keep = λ c. w.may_keep c ⊎ w.may_leave c }
moved held part _ w = record { held = held; may_leave = w.may_leave; may_keep = w.may_keep }

-- ---- a record

-- before the first call: the disk has the bytes `d` or those of the file, and so it may be after a sync
abbrev pub world_before : List ℕ → List ℕ → views.World
world_before d file = record { held = file; may_leave = λ c. (c ≡ d) ⊎ (c ≡ file); may_keep = λ c. (c ≡ d) ⊎ (c ≡ file) }

-- the file and its disk after these calls
abbrev pub world_after : List ℕ → World → List Event → views.World
world_after d w [] = world_before d (bytes_of w.start)
world_after d w (event ∷ earlier) = moved (bytes_after w (event ∷ earlier)) (part_after w earlier) event (world_after d w earlier)
