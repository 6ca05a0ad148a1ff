-- Glue: what the steps of loading and replacing the database of a file do.
use Rattle.std.specs.Prelude.{[], ◌≡◌, ◌⊎◌, ◌<◌, IsSome, IsTrue, List, ℕ, length, take, Option, Some, None, Result, Ok, Err, ⊤}
use Rattle.std.specs.List.{All}
use Rattle.rrd_change.specs.Outcomes.{RepresentedStands}
use Rattle.rrd_change.specs.Repairs.{IsLeft, IsStopped, LogEnd}
use Rattle.rrd_change.specs.Settled.{IsDelimited, mark_of}
use Rattle.rrd_change.specs.Spans.{AgreesOutside, IsIn}
use Rattle.rrd_change.specs.States.{Began, IsAtRest, IsDatabase, IsKept}
use Rattle.rrd_change.specs.Views as views
use Rattle.rrd_change.specs.declared.log.Base.{Base}
use Rattle.rrd_change.specs.declared.span.Span.{Span}
use Rattle.rrd_disk.specs.Asked.{world_in}
use Rattle.rrd_disk.specs.Contents.{IsSound, represented}
use Rattle.rrd_disk.specs.Events.{Event}
use Rattle.rrd_disk.specs.Known.{TellsBase}
use Rattle.rrd_disk.specs.Replayed.{World, bytes_after, bytes_of, held_after, is_honest_after}
use Rattle.rrd_disk.specs.declared.storage.Found.{Found}
use Rattle.rrd_disk.specs.declared.storage.Found.TheVariants.{Unopened, Missing, Unwritable, Open, Kept}
use Rattle.rrd_file.specs.End.{file_end}
use Rattle.rrd_file.specs.Faults.{IsFile}
use Rattle.rrd_file.specs.Laws.{FileBegins}
use Rattle.rrd_file.specs.Spans.{IsBeside}
use Rattle.rrd_file.specs.Spans as file
use Rattle.rrd_file.specs.declared.encoded.Encoded.{Encoded}
use Rattle.rrd_file.specs.declared.span.Span.{Span as FileSpan}
use Rattle.rrd_spec.specs.Journal.Survivors.{Stored}
use Rattle.rrd_store.specs.Sessions.{HasBytes}
use Rattle.rrd_store.specs.Storages.{Bytes, Finds, HasNone, Held, IsAfterFailure, IsAnyFile, IsNoFile}
use Rattle.rrd_store.specs.Storages as storages
use Rattle.rrd_store.specs.declared.faults.TaskFault.{TaskFault}

-- what the laws of the crates below say
pub record Laws : Type 0 where
  pub begins : (bytes : List ℕ) (d : Stored) → FileBegins bytes d
  pub ends : (bytes : List ℕ) (d : Stored) → IsFile bytes d → IsDelimited file_end bytes
  pub stands : (now file : List ℕ) → RepresentedStands file_end now file

-- ---- what is known of the file

-- a file of whose disk nothing is said
abbrev pub alone : List ℕ → views.World
alone bytes = record { held = bytes; may_leave = λ c. ⊥; may_keep = λ c. ⊥ }

-- a file that stands for a database, as kills and failed calls leave it: the disk may yet have what stands for another one
pub record IsStanding (now : List ℕ) (w : views.World) : Type 0 where
  pub is : IsDatabase now
  pub other : List ℕ
  pub end : LogEnd
  pub left : IsLeft end other now w

-- the file stands for this database, and is in the state in which it was found
abbrev pub IsFoundAs : Found → List ℕ → views.World → Type 0
IsFoundAs Unopened now w = IsStanding now w
IsFoundAs Missing now w = ⊥
IsFoundAs (Unwritable error) now w = IsStanding now w
IsFoundAs (Open base) now w = Began base now × IsAtRest now w
IsFoundAs (Kept base log) now w = Began base now × IsKept now log w

-- the same of a file of which the disk is not asked for
pub record StaysAs (found : Found) (h : Held) : Type 0 where
  pub now : List ℕ
  pub file : IsAnyFile now
  pub there : h ≡ Bytes (bytes_of h)
  pub state : IsFoundAs found now (alone (bytes_of h))

-- a file that was found so: one that is not open is sound
abbrev pub IsSoundAs : Found → Held → Type 0
IsSoundAs Unopened h = IsSound h
IsSoundAs Missing h = h ≡ storages.Missing
IsSoundAs (Unwritable error) h = IsSound h
IsSoundAs (Open base) h = StaysAs (Open base) h
IsSoundAs (Kept base log) h = StaysAs (Kept base log) h

-- it was found open
abbrev pub IsOpen : Found → Type 0
IsOpen Unopened = ⊥
IsOpen Missing = ⊥
IsOpen (Unwritable error) = ⊥
IsOpen (Open base) = ⊤
IsOpen (Kept base log) = ⊤

abbrev pub is_sound_by : Option Held → Found → List Event → Type 0
is_sound_by None found events = Unit {0}
is_sound_by (Some code) found events = IsSoundAs found (held_after (world_in code) events)

-- ---- loading

-- the database that the file represents was found, and stays
pub record IsLoaded (found : Found) (result : Result (Option Stored) TaskFault) (old new : Held) : Type 0 where
  pub sound : IsSoundAs found new
  pub same : represented new ≡ represented old
  pub finds : Finds (Some (represented old)) result

abbrev pub Loads : List Event → List Event → Found → Result (Option Stored) TaskFault → Type 0
Loads old new found result = (s : World) → IsTrue (is_honest_after s new) → IsSound (held_after s old)
    → IsLoaded found result (held_after s old) (held_after s new)

-- the same of a file that was found so
abbrev pub LoadsAs : Found → List Event → List Event → Found → Result (Option Stored) TaskFault → Type 0
LoadsAs was old new found result = (s : World) → IsTrue (is_honest_after s new) → IsSoundAs was (held_after s old)
    → IsLoaded found result (held_after s old) (held_after s new)

-- the same of a file that is open
abbrev pub LoadsOpen : List Event → List Event → Found → Result (Option Stored) TaskFault → Type 0
LoadsOpen old new found result = (s : World) → IsTrue (is_honest_after s new) → IsSound (held_after s old)
    → held_after s old ≡ Bytes (bytes_after s old)
    → IsLoaded found result (held_after s old) (held_after s new)

-- the same of a file that is open and has a mark, and of one that has none
abbrev pub LoadsMarked : List Event → List Event → Found → Result (Option Stored) TaskFault → Type 0
LoadsMarked old new found result = (s : World) → IsTrue (is_honest_after s new) → IsSound (held_after s old)
    → held_after s old ≡ Bytes (bytes_after s old) → IsSome (mark_of (bytes_after s old))
    → IsLoaded found result (held_after s old) (held_after s new)

abbrev pub LoadsUnmarked : List Event → List Event → Found → Result (Option Stored) TaskFault → Type 0
LoadsUnmarked old new found result = (s : World) → IsTrue (is_honest_after s new)
    → held_after s old ≡ Bytes (bytes_after s old) → mark_of (bytes_after s old) ≡ None
    → IsLoaded found result (held_after s old) (held_after s new)

-- a file without a mark whose database was loaded begins so, if that is known
abbrev pub IsAsLoaded : Found → List Event → Type 0
IsAsLoaded Unopened events = ⊤
IsAsLoaded Missing events = ⊥
IsAsLoaded (Unwritable error) events = ⊥
IsAsLoaded (Open base) events = TellsBase base events
IsAsLoaded (Kept base log) events = ⊥

-- a database that was read from a file which the run may change is that of the bytes in memory
abbrev pub HasDecoded : Found → List ℕ → Result (Option Stored) TaskFault → Type 0
HasDecoded found front (Ok (Some database)) = (base : Base) → found ≡ Open base → IsFile front database
HasDecoded found front (Ok None) = ⊤
HasDecoded found front (Err fault) = ⊤

-- the file represents these bytes, if there are any
abbrev pub RepresentsBytes : Option Encoded → List Event → Type 0
RepresentsBytes encoded events = (s : World) → IsTrue (is_honest_after s events) → HasBytes (Some (represented (held_after s events))) encoded

-- ---- replacing

abbrev pub IsEmpty : List Event → Type 0
IsEmpty events = (s : World) → IsTrue (is_honest_after s events) → held_after s events ≡ Bytes []

-- the same spans, as far as they are within so many bytes
abbrev pub AreOf : ℕ → List FileSpan → List Span → Type 0
AreOf count changed spans = (k : ℕ) → k < count → All (IsBeside k) changed ⊎ IsIn k spans

-- spans have the bytes that they had, and those of one more
abbrev pub AreMore : ℕ → FileSpan → List Span → List Span → Type 0
AreMore count span old new = (k : ℕ) → k < count → (IsIn k old → IsIn k new) × (IsBeside k span ⊎ IsIn k new)

-- a file whose database is to be replaced: it is a database that began like this, or there is none. After an error it represents
-- what it represented
abbrev pub IsPrepared : {E : Type 0} → Result (Option Base) E → Held → Held → Type 0
IsPrepared (Ok None) old new = (new ≡ old) × HasNone (represented old)
IsPrepared (Ok (Some base)) old new = (represented new ≡ represented old) × StaysAs (Open base) new
IsPrepared (Err error) old new = IsSound new × (represented new ≡ represented old)

abbrev pub Prepares : {E : Type 0} → List Event → List Event → Result (Option Base) E → Type 0
Prepares old new result = (s : World) → IsTrue (is_honest_after s new) → IsSound (held_after s old)
    → held_after s old ≡ Bytes (bytes_after s old)
    → IsPrepared result (held_after s old) (held_after s new)

-- the database of a file without a mark began like this; or the file has none
abbrev pub IsBased : Base → List Event → Type 0
IsBased base events = (s : World) → IsTrue (is_honest_after s events)
    → IsAnyFile (bytes_after s events) × (base.length ≡ length (bytes_after s events)) × (base.first ≡ take 16 (bytes_after s events))

abbrev pub HasNoDatabase : List Event → Type 0
HasNoDatabase events = (s : World) → IsTrue (is_honest_after s events) → IsNoFile (bytes_after s events)

-- the same of a file that has a mark
abbrev pub PreparesMarked : {E : Type 0} → List Event → List Event → Result (Option Base) E → Type 0
PreparesMarked old new result = (s : World) → IsTrue (is_honest_after s new) → IsSound (held_after s old)
    → held_after s old ≡ Bytes (bytes_after s old) → IsSome (mark_of (bytes_after s old))
    → IsPrepared result (held_after s old) (held_after s new)

-- the file represents the new bytes; or, after a failure, what the contract of a storage allows
abbrev pub IsWritten : {E : Type 0} → Result (Unit {0}) E → List ℕ → Held → Held → Type 0
IsWritten (Ok x) bytes old new = represented new ≡ Bytes bytes
IsWritten (Err error) bytes old new = IsAfterFailure (Some (represented old)) (Some (represented new)) bytes

-- a database differs from these bytes within the spans alone; nothing is said of bytes that are none
abbrev pub MayDiffer : List FileSpan → Held → List ℕ → Type 0
MayDiffer changed h bytes = (now : List ℕ) → h ≡ Bytes now → IsAnyFile now → file.AgreesOutside changed now bytes

abbrev pub Writes : {E : Type 0} → Found → Found → List FileSpan → List ℕ → List Event → List Event → Result (Unit {0}) E → Type 0
Writes found left changed bytes old new result = (s : World) → IsTrue (is_honest_after s new) → IsSoundAs found (held_after s old)
    → MayDiffer changed (represented (held_after s old)) bytes
    → IsSoundAs left (held_after s new) × IsWritten result bytes (held_after s old) (held_after s new)

-- the same of a file that was not found open: all bytes are written
abbrev pub WritesAll : {E : Type 0} → Found → Found → List ℕ → List Event → List Event → Result (Unit {0}) E → Type 0
WritesAll found left bytes old new result = (s : World) → IsTrue (is_honest_after s new) → IsSoundAs found (held_after s old)
    → IsSoundAs left (held_after s new) × IsWritten result bytes (held_after s old) (held_after s new)

-- the same of an open file that is a database, which began like this; and of one that has none
abbrev pub WritesOver : {E : Type 0} → Base → Found → List ℕ → List Event → List Event → Result (Unit {0}) E → Type 0
WritesOver base left bytes old new result = (s : World) → IsTrue (is_honest_after s new) → StaysAs (Open base) (held_after s old)
    → IsSoundAs left (held_after s new) × IsWritten result bytes (held_after s old) (held_after s new)

abbrev pub WritesFirst : {E : Type 0} → Found → List ℕ → List Event → List Event → Result (Unit {0}) E → Type 0
WritesFirst left bytes old new result = (s : World) → IsTrue (is_honest_after s new) → IsSound (held_after s old) → HasNone (represented (held_after s old))
    → held_after s old ≡ Bytes (bytes_after s old)
    → IsSoundAs left (held_after s new) × IsWritten result bytes (held_after s old) (held_after s new)

-- a file that was found so is changed from one database to another
abbrev pub Changes : Found → Found → List Span → List ℕ → views.Effect
Changes found left spans bytes w v = (now : List ℕ) → IsAnyFile now → AgreesOutside spans now bytes → IsFoundAs found now w → IsFoundAs left bytes v

-- that failed: it stands for the one or for the other
abbrev pub Breaks : Found → List Span → List ℕ → views.Effect
Breaks found spans bytes w v = (now : List ℕ) → IsAnyFile now → AgreesOutside spans now bytes → IsFoundAs found now w → (end : LogEnd) × IsStopped end now bytes v
