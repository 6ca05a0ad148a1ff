-- Definition: the lock under which a file is changed (own). Glue: what the calls that open and lock a file say of it.
use Rattle.std.specs.Prelude.{◌≡◌, Bool, true, false, IsTrue, List, [], ◌∷◌, Option, Some, None, ⊤}
use Rattle.rrd_disk.specs.Events.{Event, Found, Made, Locked, NoLocks}
use Rattle.rrd_disk.specs.declared.disk.Lock.{Lock}
use Rattle.rrd_disk.specs.declared.disk.Lock.TheVariants.{Shared, Own}
use Rattle.rrd_disk.specs.declared.disk.LockResult.{LockResult}
use Rattle.rrd_disk.specs.declared.disk.LockResult.TheVariants.{Taken, NoLocks as Lacking}
use Rattle.rrd_disk.specs.declared.locks.LockedFile.{LockedFile}
use Rattle.rrd_disk.specs.declared.opening.Opened.{Opened}
use Rattle.rrd_disk.specs.declared.opening.Opened.TheVariants.{Regular, Pipe, Missing, Refused}

-- since it was opened last, the file was locked against all other programs, or its file system has no locks
abbrev pub is_guarded : List Event → Bool
is_guarded [] = false
is_guarded (Found ∷ earlier) = false
is_guarded (Made ∷ earlier) = false
is_guarded (Locked Shared ∷ earlier) = false
is_guarded (Locked Own ∷ earlier) = true
is_guarded (NoLocks ∷ earlier) = true
is_guarded (_ ∷ earlier) = is_guarded earlier

-- the event of a try to lock a file so, by its answer
abbrev pub locked : Lock → LockResult → Event
locked lock Taken = Locked lock
locked lock Lacking = NoLocks

-- the calls opened no file, and changed no lock
abbrev pub KeepsGuard : List Event → List Event → Type 0
KeepsGuard old new = is_guarded new ≡ is_guarded old

-- if this lock was to be the run's own, the file is guarded
abbrev pub GuardsFor : Lock → List Event → Type 0
GuardsFor lock events = lock ≡ Own → IsTrue (is_guarded events)

abbrev pub Guards : {F : Type 0} → Option (LockedFile F) → List Event → Type 0
Guards file events = (locked : LockedFile _) → file ≡ Some locked → GuardsFor locked.lock events

-- the lock of an open file was turned into this one: a shared one guards the file no more
abbrev pub IsTurned : Lock → List Event → Type 0
IsTurned Shared events = is_guarded events ≡ false
IsTurned Own events = IsTrue (is_guarded events)

abbrev pub GuardsOpened : {F P : Type 0} → Opened F P → List Event → Type 0
GuardsOpened (Regular locked count) events = GuardsFor locked.lock events
GuardsOpened (Pipe pipe) events = ⊤
GuardsOpened Missing events = ⊤
GuardsOpened (Refused error) events = ⊤

abbrev pub GuardsOpenedIf : {F P : Type 0} → Option (Opened F P) → List Event → Type 0
GuardsOpenedIf None events = ⊤
GuardsOpenedIf (Some opened) events = GuardsOpened opened events
