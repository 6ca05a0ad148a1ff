-- Definition: what survives a failure of the power, of a file that is changed by a run that syncs (own).
use Rattle.std.specs.Prelude.{◌≡◌, ◌⊎◌, ℕ, Bool, IsTrue, List, [], Option, Some, None, Result, Ok, Err}
use Rattle.rrd_change.specs.Outcomes.{AllStand, AllStandAsTold}
use Rattle.rrd_change.specs.Repairs.{IsLeft, IsStopped, LogEnd, Whole}
use Rattle.rrd_change.specs.States.{Began, IsAtRest, Tells}
use Rattle.rrd_change.specs.Views as views
use Rattle.rrd_change.specs.declared.calls.Syncs.{Syncs}
use Rattle.rrd_change.specs.declared.calls.Syncs.TheVariants.{Ordered}
use Rattle.rrd_change.specs.declared.log.Base.{Base}
use Rattle.rrd_disk.specs.Events.{Event}
use Rattle.rrd_disk.specs.Power.{world_after}
use Rattle.rrd_disk.specs.Replayed.{World, bytes_after, is_honest_after}
use Rattle.rrd_file.specs.End.{file_end}
use Rattle.rrd_store.specs.Storages.{Bytes, IsAnyFile, IsNoFile, Missing}

-- programs read that the file stands for a database of which `P` holds. The disk may yet have what stands for another one, as kills and
-- failed calls leave it, and `P` holds of that one too
pub record Survives (P : List ℕ → Type 0) (w : views.World) : Type 0 where
  pub now : List ℕ
  pub other : List ℕ
  pub is : IsAnyFile now
  pub was : IsAnyFile other
  pub holds : P now
  pub held : P other
  pub end : LogEnd
  pub left : IsLeft end other now w

-- the same, and whatever the power may leave stands for a database of which `P` holds
pub record SurvivesPower (P : List ℕ → Type 0) (w : views.World) : Type 0 where
  pub survives : Survives P w
  pub stand : AllStandAsTold file_end P w

-- ---- laws

-- these calls changed a database to these bytes, or began to: what holds of the new bytes, and of all that the file and the
-- disk stood for before, holds of whatever the power may leave
abbrev pub IsChange : List ℕ → List Event → Type 0
IsChange bytes events = (d : List ℕ) (w : World) → IsTrue (is_honest_after w events) → (P : List ℕ → Bool)
    → IsTrue (P bytes) → Survives (λ b. IsTrue (P b)) (world_after d w []) → SurvivesPower (λ b. IsTrue (P b)) (world_after d w events)

-- they changed it: whatever the power may leave stands for these bytes
abbrev pub IsChanged : List ℕ → List Event → Type 0
IsChanged bytes events = (d : List ℕ) (w : World) → IsTrue (is_honest_after w events) → (P : List ℕ → Bool)
    → Survives (λ b. IsTrue (P b)) (world_after d w []) → SurvivesPower (λ b. b ≡ bytes) (world_after d w events)

-- what a file stands for that was made with these bytes, or began to be made: these, or no database
abbrev pub IsMadeOrNone : List ℕ → List ℕ → Type 0
IsMadeOrNone bytes now = (now ≡ bytes) ⊎ IsNoFile now

-- these calls made a file where there was none, nor anything of it on the disk, or began to: so does whatever the power may leave
abbrev pub IsMaking : List ℕ → List Event → Type 0
IsMaking bytes events = (w : World) → IsTrue (is_honest_after w events) → w.start ≡ Missing → AllStand file_end (IsMadeOrNone bytes) (world_after [] w events)

-- they made it: whatever the power may leave stands for these bytes
abbrev pub IsMade : List ℕ → List Event → Type 0
IsMade bytes events = (w : World) → IsTrue (is_honest_after w events) → w.start ≡ Missing → AllStand file_end (λ b. b ≡ bytes) (world_after [] w events)

-- after the power failed, the file has what the disk has
abbrev pub found_after : List ℕ → World
found_after c = record { start = Bytes c; parts = [] }

-- what survived until the power failed has survived the failure. The premise about the checksum is that no part of a change has a
-- right one
abbrev pub SurvivesFailure : (List ℕ → Bool) → List ℕ → World → List Event → Type 0
SurvivesFailure P d w events = Survives (λ b. IsTrue (P b)) (world_after d w events) → (c : List ℕ) → (world_after d w events).may_leave c → Tells (bytes_after w events) c
    → Survives (λ b. IsTrue (P b)) (world_after c (found_after c) [])

-- ---- glue: the steps

-- calls of a run that syncs, whose answers are honest, had one effect, which may depend on the result, if they ended well, and another
-- one if they failed
abbrev pub DoesOr : {A E : Type 0} → (A → views.Effect) → views.Effect → Result A E → Syncs → List Event → List Event → Type 0
DoesOr well badly (Ok x) syncs old new = syncs ≡ Ordered → (d : List ℕ) (w : World) → IsTrue (is_honest_after w new) → well x (world_after d w old) (world_after d w new)
DoesOr well badly (Err e) syncs old new = syncs ≡ Ordered → (d : List ℕ) (w : World) → IsTrue (is_honest_after w new) → badly (world_after d w old) (world_after d w new)

-- a file whose database is to be replaced is a database, which began like this
abbrev pub Readies : Option Base → views.Effect
Readies None w v = (end : LogEnd) (other now : List ℕ) → IsAnyFile now → IsLeft end other now w → ⊥
Readies (Some base) w v = (end : LogEnd) (other now : List ℕ) → IsAnyFile now → IsLeft end other now w → Began base now × IsAtRest now v

-- that failed: it is as it was left
abbrev pub StaysLeft : views.Effect
StaysLeft w v = (end : LogEnd) (other now : List ℕ) → IsAnyFile now → IsLeft end other now w → IsLeft end other now v

-- it was replaced
abbrev pub Becomes : List ℕ → views.Effect
Becomes bytes w v = (end : LogEnd) (other now : List ℕ) → IsAnyFile now → IsLeft end other now w → IsAtRest bytes v

-- that failed: it is as it was left, or a change stopped
abbrev pub BecomesOrNot : List ℕ → views.Effect
BecomesOrNot bytes w v = (end : LogEnd) (other now : List ℕ) → IsAnyFile now → IsLeft end other now w → IsLeft end other now v ⊎ ((last : LogEnd) × IsStopped last now bytes v)

-- a database that began like this was replaced
abbrev pub Replaces : Base → List ℕ → views.Effect
Replaces base bytes w v = (now : List ℕ) → IsAnyFile now → Began base now → IsAtRest now w → IsAtRest bytes v

-- that failed
abbrev pub ReplacesOrNot : Base → List ℕ → views.Effect
ReplacesOrNot base bytes w v = (now : List ℕ) → IsAnyFile now → Began base now → IsAtRest now w → IsStopped Whole now bytes v
