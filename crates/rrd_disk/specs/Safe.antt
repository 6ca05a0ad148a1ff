-- Definition: runs that survive a failure of the power. Glue: what the steps of a run leave of a file that survives one.
use Rattle.std.specs.Prelude.{◌≡◌, ◌⊎◌, ◌≤◌, ℕ, Bool, IsTrue, List, [], length, None, Result, Ok, Err}
use Rattle.rrd_change.specs.Repairs.{IsLeft, IsStopped, LogEnd, Whole}
use Rattle.rrd_change.specs.Settled.{mark_of}
use Rattle.rrd_change.specs.States.{Began}
use Rattle.rrd_change.specs.Views as views
use Rattle.rrd_change.specs.declared.calls.Syncs.{Syncs}
use Rattle.rrd_change.specs.declared.calls.Syncs.TheVariants.{Ordered}
use Rattle.rrd_disk.specs.Contents.{IsSound, represented}
use Rattle.rrd_disk.specs.Events.{Event}
use Rattle.rrd_disk.specs.Power.{world_after}
use Rattle.rrd_disk.specs.Replayed.{World, bytes_after, failures, held_after, is_honest_after}
use Rattle.rrd_disk.specs.Storing.{IsFoundAs, MayDiffer}
use Rattle.rrd_disk.specs.Surviving.{Survives, SurvivesPower}
use Rattle.rrd_disk.specs.declared.storage.Found.{Found}
use Rattle.rrd_disk.specs.declared.storage.Found.TheVariants.{Unopened, Missing, Unwritable, Open, Kept}
use Rattle.rrd_file.specs.declared.span.Span.{Span as FileSpan}
use Rattle.rrd_store.specs.Runs as runs
use Rattle.rrd_store.specs.Storages.{Bytes, IsAnyFile}

-- ---- runs

-- what a run syncs: each of its changes and repairs, or nothing
abbrev pub IsSynced : Syncs → Type 0
IsSynced syncs = syncs ≡ Ordered

-- a run that syncs made these calls. The file stood for a database before, as kills, failed calls and failures of the power leave
-- it: what holds of all that the file and the disk stood for, and of the database to which the definitions say that the run
-- leads, holds of whatever the power may leave after the last of the calls
abbrev pub SurvivesRun : List Event → runs.Run → Type 0
SurvivesRun events run =
    (d : List ℕ) (w : World) → IsTrue (is_honest_after w events) → IsSound w.start → (P : List ℕ → Bool)
    → ((b : List ℕ) → runs.Did (represented w.start) run (Bytes b) → IsTrue (P b))
    → Survives (λ b. IsTrue (P b)) (world_after d w []) → SurvivesPower (λ b. IsTrue (P b)) (world_after d w events)

-- the run ended well: what holds of the database to which it led holds of whatever the power may leave. If the run changed
-- nothing, it held before
abbrev pub StoresRun : List Event → runs.Run → Type 0
StoresRun events run =
    (d : List ℕ) (w : World) → IsTrue (is_honest_after w events) → IsSound w.start → (P R : List ℕ → Bool)
    → ((b : List ℕ) → runs.Did (represented w.start) run (Bytes b) → IsTrue (R b))
    → (represented (held_after w events) ≡ represented w.start → Survives (λ b. IsTrue (R b)) (world_after d w []))
    → Survives (λ b. IsTrue (P b)) (world_after d w []) → SurvivesPower (λ b. IsTrue (R b)) (world_after d w events)

-- ---- glue: a file in the state in which it was found

-- it is as it was left, and the disk may have what stands for another database; or a run has it open
abbrev pub IsLeftAs : Found → LogEnd → List ℕ → List ℕ → views.World → Type 0
IsLeftAs Unopened end other now w = IsLeft end other now w
IsLeftAs Missing end other now w = ⊥
IsLeftAs (Unwritable error) end other now w = IsLeft end other now w
IsLeftAs (Open base) end other now w = IsFoundAs (Open base) now w
IsLeftAs (Kept base log) end other now w = IsFoundAs (Kept base log) now w

-- the same where both are databases of which `P` holds
pub record SurvivesAs (P : List ℕ → Type 0) (found : Found) (w : views.World) : Type 0 where
  pub now : List ℕ
  pub other : List ℕ
  pub is : IsAnyFile now
  pub was : IsAnyFile other
  pub holds : P now
  pub held : P other
  pub end : LogEnd
  pub left : IsLeftAs found end other now w

-- ---- glue: the steps

-- the file was loaded: it stands for the same database, and is in the state in which it was found
abbrev pub Opens : Found → views.Effect
Opens found w v = (end : LogEnd) (other now : List ℕ) → IsAnyFile now → IsLeft end other now w → IsLeftAs found end other now v

-- the same of a file that a run may have open
abbrev pub Reopens : Found → Found → views.Effect
Reopens was found w v = (end : LogEnd) (other now : List ℕ) → IsAnyFile now → IsLeftAs was end other now w → IsLeftAs found end other now v

-- a database with these bytes was written, and the file is open
abbrev pub BeganAs : List ℕ → Found → Type 0
BeganAs bytes Unopened = ⊥
BeganAs bytes Missing = ⊥
BeganAs bytes (Unwritable error) = ⊥
BeganAs bytes (Open base) = Began base bytes
BeganAs bytes (Kept base log) = ⊥

-- it is not open
abbrev pub IsClosedAs : Found → Type 0
IsClosedAs Unopened = Unit {0}
IsClosedAs Missing = ⊥
IsClosedAs (Unwritable error) = Unit {0}
IsClosedAs (Open base) = ⊥
IsClosedAs (Kept base log) = ⊥

-- calls of a run that syncs, whose answers are honest, had this effect
abbrev pub DoesSafely : views.Effect → Syncs → List Event → List Event → Type 0
DoesSafely effect syncs old new =
    syncs ≡ Ordered → (d : List ℕ) (w : World) → IsTrue (is_honest_after w new) → effect (world_after d w old) (world_after d w new)

-- the same if the file has no mark
abbrev pub DoesSafelyUnmarked : views.Effect → Syncs → List Event → List Event → Type 0
DoesSafelyUnmarked effect syncs old new =
    syncs ≡ Ordered → (d : List ℕ) (w : World) → IsTrue (is_honest_after w new) → mark_of (bytes_after w old) ≡ None
    → effect (world_after d w old) (world_after d w new)

-- a file that was found so, and of which these bytes differ within the spans alone, was written; or that failed
abbrev pub IsPut : {E : Type 0} → Result (Unit {0}) E → Found → List ℕ → List ℕ → LogEnd → List ℕ → views.World → Type 0
IsPut (Ok x) left bytes now end other v = IsLeftAs left Whole bytes bytes v
IsPut (Err error) left bytes now end other v = IsLeft end other now v ⊎ ((last : LogEnd) × IsStopped last now bytes v)

abbrev pub PutsSafely : {E : Type 0} → Syncs → Found → Found → List FileSpan → List ℕ → List Event → List Event → Result (Unit {0}) E → Type 0
PutsSafely syncs found left changed bytes old new result =
    syncs ≡ Ordered → (d : List ℕ) (w : World) → IsTrue (is_honest_after w new)
    → MayDiffer changed (represented (held_after w old)) bytes
    → (end : LogEnd) (other now : List ℕ) → IsAnyFile now → IsLeftAs found end other now (world_after d w old)
    → IsPut result left bytes now end other (world_after d w new)

-- ---- a file that stays open

-- what is so of an open file between two runs that sync: what survived since it was opened survives still, as it was found
abbrev pub IsSafeOpen : Syncs → Found → List Event → (List ℕ → Bool) → List ℕ → World → Type 0
IsSafeOpen syncs found events P d w = (syncs ≡ Ordered) × SurvivesAs (λ b. IsTrue (P b)) found (world_after d w events)

-- the calls between the two records changed no database
abbrev pub StaysSafe : Syncs → Found → List Event → Syncs → Found → List Event → Type 0
StaysSafe y0 f0 before y1 f1 after =
    (d : List ℕ) (w : World) → IsTrue (is_honest_after w after) → (P : List ℕ → Bool) → IsSafeOpen y0 f0 before P d w → IsSafeOpen y1 f1 after P d w

-- a run made them: what holds of all that the file and the disk stood for, and of the database to which the definitions say that
-- the run leads, holds of whatever the power may leave
abbrev pub SurvivesOpenRun : Syncs → Found → List Event → Syncs → Found → List Event → runs.Run → Type 0
SurvivesOpenRun y0 f0 before y1 f1 after run =
    (d : List ℕ) (w : World) → IsTrue (is_honest_after w after) → IsSound w.start → (P : List ℕ → Bool)
    → ((b : List ℕ) → runs.Did (represented (held_after w before)) run (Bytes b) → IsTrue (P b))
    → IsSafeOpen y0 f0 before P d w → IsSafeOpen y1 f1 after P d w

-- the power failed in the run: after the last of these calls, or in it, and then it is a call that failed. Nothing is assumed of
-- what calls left that were not made
abbrev pub SurvivesInOpenRun : Syncs → Found → List Event → List Event → runs.Run → Type 0
SurvivesInOpenRun syncs found before after run =
    (d : List ℕ) (w : World) → length w.parts ≤ failures after → IsTrue (is_honest_after w after) → IsSound w.start → (P : List ℕ → Bool)
    → ((b : List ℕ) → runs.Did (represented (held_after w before)) run (Bytes b) → IsTrue (P b))
    → IsSafeOpen syncs found before P d w → SurvivesPower (λ b. IsTrue (P b)) (world_after d w after)

-- the power failed while the file was opened, read again or closed: after the last of these calls, or in it, as above. They changed
-- no database
abbrev pub SurvivesMeanwhile : Syncs → Found → List Event → List Event → Type 0
SurvivesMeanwhile syncs found before after =
    (d : List ℕ) (w : World) → length w.parts ≤ failures after → IsTrue (is_honest_after w after) → (P : List ℕ → Bool)
    → IsSafeOpen syncs found before P d w → SurvivesPower (λ b. IsTrue (P b)) (world_after d w after)

-- it ended well: what holds of the database to which it led holds of whatever the power may leave. If the run changed nothing,
-- it held before
abbrev pub StoresOpenRun : Syncs → Found → List Event → Syncs → Found → List Event → runs.Run → Type 0
StoresOpenRun y0 f0 before y1 f1 after run =
    (d : List ℕ) (w : World) → IsTrue (is_honest_after w after) → IsSound w.start → (P Q : List ℕ → Bool)
    → ((b : List ℕ) → runs.Did (represented (held_after w before)) run (Bytes b) → IsTrue (Q b))
    → (represented (held_after w after) ≡ represented (held_after w before) → IsSafeOpen y0 f0 before Q d w)
    → IsSafeOpen y0 f0 before P d w → IsSafeOpen y1 f1 after Q d w

-- the calls opened the file: what the file and the disk stood for before survives
abbrev pub IsOpenedSafely : Syncs → Found → List Event → Type 0
IsOpenedSafely syncs found events =
    (d : List ℕ) (w : World) → IsTrue (is_honest_after w events) → (P : List ℕ → Bool) → Survives (λ b. IsTrue (P b)) (world_after d w [])
    → IsSafeOpen syncs found events P d w
