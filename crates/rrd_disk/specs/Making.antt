-- Definition: runs that make a file, and survive a failure of the power (own). Glue: what the steps of such a run leave.
use Rattle.std.specs.Prelude.{◌≡◌, ◌⊎◌, ℕ, zero, suc, Bool, IsTrue, List, [], ◌∷◌, Option, Some, None, Result, Ok, Err}
use Rattle.rrd_change.specs.Making.{IsEmpty, IsUnmade}
use Rattle.rrd_change.specs.Repairs.{Whole}
use Rattle.rrd_change.specs.Settled.{mark_of}
use Rattle.rrd_change.specs.States.{IsAtRest, IsPlain, Tells}
use Rattle.rrd_change.specs.Views as views
use Rattle.rrd_change.specs.declared.calls.Syncs.{Syncs}
use Rattle.rrd_change.specs.declared.calls.Syncs.TheVariants.{Ordered}
use Rattle.rrd_disk.specs.Asked.{world_in}
use Rattle.rrd_disk.specs.Contents.{represented}
use Rattle.rrd_disk.specs.Events.{Event}
use Rattle.rrd_disk.specs.Power.{world_after}
use Rattle.rrd_disk.specs.Replayed.{World, bytes_after, bytes_of, held_after, is_honest_after}
use Rattle.rrd_disk.specs.Safe.{IsLeftAs, SurvivesAs}
use Rattle.rrd_disk.specs.Surviving.{Survives, SurvivesPower, found_after}
use Rattle.rrd_disk.specs.declared.storage.Found.{Found}
use Rattle.rrd_disk.specs.declared.storage.Found.TheVariants.{Unopened, Missing, Unwritable, Open, Kept}
use Rattle.rrd_store.specs.Runs as runs
use Rattle.rrd_store.specs.Storages.{Bytes, Held, IsAnyFile, IsNoFile}
use Rattle.rrd_store.specs.Storages as storages

-- ---- runs

-- programs find no database in these bytes, and no mark
abbrev pub IsBare : List ℕ → Type 0
IsBare bytes = (mark_of bytes ≡ None) × IsNoFile bytes

-- a file that the disk may have: a database of which `P` holds, perhaps with a cut mark still; or none, if `P` holds of no bytes. No part of
-- a database is another one
abbrev pub IsMadeOf : (List ℕ → Type 0) → List ℕ → Type 0
IsMadeOf P c = ((now : List ℕ) × IsAnyFile now × P now × IsPlain now c) ⊎ (P [] × IsBare c)

-- programs found no database: there was no file, nor anything of it on the disk; or a file that is none. The disk may have had a
-- database of which `P` holds
pub record HadNone (P : List ℕ → Type 0) (d : List ℕ) (start : Held) : Type 0 where
  pub none : P []
  pub bare : IsBare (bytes_of start)
  pub disk : IsMadeOf P d
  pub missing : start ≡ storages.Missing → d ≡ []

-- whatever the power may leave is a database of which `P` holds, or stands for one; or is none, if `P` holds of no bytes
abbrev pub SurvivesMade : (List ℕ → Type 0) → views.World → Type 0
SurvivesMade P w = SurvivesPower P w ⊎ views.All (IsMadeOf P) w

-- a run that syncs made these calls, and programs found no database before. What holds of no bytes, of each database that the
-- disk had, and of the one to which the definitions say that the run leads, holds of whatever the power may leave after the last of
-- the calls. The record does not know whether the disk has the name of a new file: without it there is no file
abbrev pub SurvivesMaking : List Event → runs.Run → Type 0
SurvivesMaking events run =
    (d : List ℕ) (w : World) → IsTrue (is_honest_after w events) → (P : List ℕ → Bool)
    → ((b : List ℕ) → runs.Did (represented w.start) run (Bytes b) → IsTrue (P b))
    → HadNone (λ b. IsTrue (P b)) d w.start → SurvivesMade (λ b. IsTrue (P b)) (world_after d w events)

-- the run ended well: what holds of the database to which it led holds of whatever the power may leave. If the run changed
-- nothing, it held before
abbrev pub StoresMaking : List Event → runs.Run → Type 0
StoresMaking events run =
    (d : List ℕ) (w : World) → IsTrue (is_honest_after w events) → (P R : List ℕ → Bool)
    → ((b : List ℕ) → runs.Did (represented w.start) run (Bytes b) → IsTrue (R b))
    → (represented (held_after w events) ≡ represented w.start → HadNone (λ b. IsTrue (R b)) d w.start)
    → HadNone (λ b. IsTrue (P b)) d w.start → SurvivesMade (λ b. IsTrue (R b)) (world_after d w events)

-- after the failure the next run finds a database of which `P` holds, or none, as the theorems ask of their first file
abbrev pub SurvivesMakingFailure : (List ℕ → Bool) → List ℕ → World → List Event → Type 0
SurvivesMakingFailure P d w events =
    SurvivesMade (λ b. IsTrue (P b)) (world_after d w events) → (c : List ℕ) → (world_after d w events).may_leave c → Tells (bytes_after w events) c
    → Survives (λ b. IsTrue (P b)) (world_after c (found_after c) []) ⊎ HadNone (λ b. IsTrue (P b)) c (Bytes c)

-- ---- glue: a file that has no database yet, in the state in which it was found

-- the run can make it. One that it failed to write is not written again
abbrev pub Lacks : Found → views.World → Type 0
Lacks Unopened w = IsBare w.held
Lacks Missing w = IsEmpty w
Lacks (Unwritable error) w = Unit {0}
Lacks (Open base) w = ⊥
Lacks (Kept base log) w = ⊥

-- where there is no file, the disk has nothing of it
abbrev pub IsGone : Found → Held → views.World → Type 0
IsGone Unopened h w = h ≡ storages.Missing → IsEmpty w
IsGone Missing h w = h ≡ storages.Missing
IsGone _ h w = Unit {0}

-- and `P` holds of whatever the disk may have
pub record IsLacking (P : List ℕ → Type 0) (found : Found) (h : Held) (w : views.World) : Type 0 where
  pub none : P []
  pub lacks : Lacks found w
  pub gone : IsGone found h w
  pub all : views.All (IsMadeOf P) w

-- what a run keeps, by the first number of a list: of a file that had a database, or of one that had none. The others are the bytes of
-- the disk
abbrev pub IsSafeAs : List ℕ → (List ℕ → Type 0) → Found → World → List Event → Type 0
IsSafeAs [] P found w events = ⊥
IsSafeAs (zero ∷ d) P found w events = SurvivesAs P found (world_after d w events)
IsSafeAs (suc more ∷ d) P found w events =
    SurvivesAs P found (world_after d w events) ⊎ IsLacking P found (held_after w events) (world_after d w events)

-- the same by the record, as `rrd_store` asks, of a run that syncs
abbrev pub is_safe_by : Option Held → List ℕ → (List ℕ → Bool) → Syncs → Found → List Event → Type 0
is_safe_by None d P syncs found events = Unit {0}
is_safe_by (Some code) d P syncs found events = (syncs ≡ Ordered) × IsSafeAs d (λ b. IsTrue (P b)) found (world_in code) events

-- ---- glue: the steps

-- the file or the disk had these bytes
abbrev pub Had : views.World → List ℕ → Type 0
Had w c = (c ≡ w.held) ⊎ (w.may_leave c ⊎ w.may_keep c)

abbrev pub IsUnmadeOr : List ℕ → views.World → List ℕ → Type 0
IsUnmadeOr bytes w c = IsUnmade bytes c ⊎ Had w c

-- a file that was found so got these bytes; or that failed
abbrev pub Makes : Found → List ℕ → views.Effect
Makes found bytes w v = Lacks found w → IsAtRest bytes v

abbrev pub MakesOrNot : Found → List ℕ → views.Effect
MakesOrNot found bytes w v = Lacks found w → views.All (IsUnmadeOr bytes w) v

-- the same by the result, and with the state in which the file is left
abbrev pub IsMadeAs : {E : Type 0} → Result (Unit {0}) E → Found → List ℕ → views.World → views.World → Type 0
IsMadeAs (Ok x) left bytes w v = IsAtRest bytes v × IsLeftAs left Whole bytes bytes v
IsMadeAs (Err error) left bytes w v = views.All (IsUnmadeOr bytes w) v

abbrev pub MakesSafely : {E : Type 0} → Syncs → Found → Found → List ℕ → List Event → List Event → Result (Unit {0}) E → Type 0
MakesSafely syncs found left bytes old new result =
    syncs ≡ Ordered → (d : List ℕ) (w : World) → IsTrue (is_honest_after w new) → Lacks found (world_after d w old)
    → IsMadeAs result left bytes (world_after d w old) (world_after d w new)

-- a file without a mark stays as it is, and what the disk may have
abbrev pub StaysUnmarked : List Event → List Event → Type 0
StaysUnmarked old new =
    (d : List ℕ) (w : World) → IsTrue (is_honest_after w new) → mark_of (bytes_after w old) ≡ None
    → views.Stays (world_after d w old) (world_after d w new)

-- a run that failed to write the file does not load it again
abbrev pub IsUnwritable : Found → Type 0
IsUnwritable (Unwritable error) = Unit {0}
IsUnwritable _ = ⊥

abbrev pub MayLoad : Found → Type 0
MayLoad (Unwritable error) = ⊥
MayLoad _ = Unit {0}
