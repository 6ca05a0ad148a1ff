-- Definition: runs on a file that stays open, with the record of all calls on the file. Law: after any list of such runs on
-- one honest file, its bytes and all printed text are what the definitions compute.
use Rattle.std.specs.Prelude.{◌≡◌, false, IsTrue, List, [], ◌∷◌, map, Option, Some, ⊤}
use Rattle.rrd_disk.specs.Contents.{IsSound, represented}
use Rattle.rrd_disk.specs.Events.{Event}
use Rattle.rrd_disk.specs.Locks.{is_guarded}
use Rattle.rrd_disk.specs.Replayed.{World, bytes_after, held_after, is_honest_after}
use Rattle.rrd_disk.specs.Storing.{IsOpen, IsSoundAs}
use Rattle.rrd_disk.specs.declared.storage.Found.{Found}
use Rattle.rrd_file.specs.declared.encoded.Encoded.{Encoded}
use Rattle.rrd_spec.specs.Journal.Survivors.{Stored}
use Rattle.rrd_store.specs.Runs as runs
use Rattle.rrd_store.specs.Sessions.{IsInMemory}
use Rattle.rrd_store.specs.Storages.{Bytes, Held}

-- the file is in the state in which it was found, so that the next run can read it; and what is in memory, a database and its
-- bytes, is what the file represents
pub record IsKeptOf (found : Found) (held : Held) (database : Option Stored) (encoded : Option Encoded) : Type 0 where
  pub sound : IsSoundAs found held
  pub memory : IsInMemory (Some (represented held)) database encoded

-- so it is from each file for which all answers so far are honest
abbrev pub IsKept : Found → List Event → Option Stored → Option Encoded → Type 0
IsKept found events database encoded =
    (w : World) → IsTrue (is_honest_after w events) → IsSound w.start → IsKeptOf found (held_after w events) database encoded

-- the calls that opened the file changed nothing that the file represents
abbrev pub IsOpened : List Event → Type 0
IsOpened events =
    (w : World) → IsTrue (is_honest_after w events) → IsSound w.start
    → represented (held_after w events) ≡ represented w.start

-- the calls between the two records changed nothing that the file represents
abbrev pub IsReload : List Event → List Event → Type 0
IsReload before after =
    (w : World) → IsTrue (is_honest_after w after) → IsSound w.start
    → IsTrue (is_honest_after w before)
    × (represented (held_after w after) ≡ represented (held_after w before))

-- the calls between the two records left a sound file and changed nothing that it represents, if it was in the state in which it
-- was found
abbrev pub Finishes : Found → List Event → List Event → Type 0
Finishes found before after =
    (w : World) → IsTrue (is_honest_after w after) → IsSoundAs found (held_after w before)
    → IsSound (held_after w after) × (represented (held_after w after) ≡ represented (held_after w before))

-- the same of an open file that is sound
abbrev pub Settles : List Event → List Event → Type 0
Settles before after =
    (w : World) → IsTrue (is_honest_after w after) → IsSound (held_after w before) → held_after w before ≡ Bytes (bytes_after w before)
    → IsSound (held_after w after) × (represented (held_after w after) ≡ represented (held_after w before))

-- the file is sound after these calls, so that the next program can read it
abbrev pub LeavesSound : List Event → Type 0
LeavesSound events = (w : World) → IsTrue (is_honest_after w events) → IsSound w.start → IsSound (held_after w events)

-- a file that stays open lets others read it between two runs: its lock is not the run's own
abbrev pub LetsRead : Found → List Event → Type 0
LetsRead found events = IsOpen found → is_guarded events ≡ false

-- the record has these calls before the run, and those after it. From each file for which all answers are honest, the run did
-- what the definitions say to the file that the calls before it left
abbrev pub IsOpenRun : List Event → List Event → runs.Run → Type 0
IsOpenRun before after run =
    (w : World) → IsTrue (is_honest_after w after) → IsSound w.start
    → IsTrue (is_honest_after w before)
    × runs.Did (represented (held_after w before)) run (represented (held_after w after))

-- a run, and the calls on the file since it was opened, the newest first
pub record RecordedOpen : Type 0 where
  pub run : runs.Run
  pub events : List Event

-- each run did what its record says: it begins with the record of the run before
abbrev pub AreOpenRuns : List Event → List RecordedOpen → Type 0
AreOpenRuns before [] = ⊤
AreOpenRuns before (r ∷ later) = IsOpenRun before r.events r.run × AreOpenRuns r.events later

-- the record after the runs
abbrev pub record_of : List Event → List RecordedOpen → List Event
record_of before [] = before
record_of before (r ∷ later) = record_of r.events later

-- the main theorem, for a file that stays open
abbrev pub OpenFilesFollowSpecification : World → Option Stored → List Event → List RecordedOpen → Type 0
OpenFilesFollowSpecification w first opened recorded =
    (is : runs.IsFirst w.start first) → IsOpened opened → AreOpenRuns opened recorded
    → IsTrue (is_honest_after w (record_of opened recorded))
    → (last : runs.Standing)
    × runs.LeadsAll (runs.Keeping (runs.first_of w.start first is)) (map (λ (r : RecordedOpen). runs.Ended r.run) recorded) last
    × runs.IsFileOf (represented (held_after w (record_of opened recorded))) last
