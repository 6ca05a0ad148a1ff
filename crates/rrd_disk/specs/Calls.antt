-- Definition: the events of the calls that open a file or look for it; the results of reading. Glue: what several calls did to the file
-- and its disk.
use Rattle.std.specs.Prelude.{◌≡◌, ◌⊎◌, [], ◌∷◌, ℕ, ◌+◌, ◌<◌, ◌≤◌, IsTrue, List, length, slice_index, take, Option, Some, None, Result, Ok, Err}
use Rattle.rrd_change.specs.Calls.{IsFrontPut}
use Rattle.rrd_change.specs.Views.{Effect}
use Rattle.rrd_disk.specs.Events.{Event, Found, Made, Missing}
use Rattle.rrd_disk.specs.Power.{world_after}
use Rattle.rrd_disk.specs.Replayed.{World, held_after, is_honest_after, is_small, is_there}
use Rattle.rrd_store.specs.Storages.{Missing as NoFile, Bytes}
use Rattle.rrd_disk.specs.declared.disk.Facts.{Facts}
use Rattle.rrd_disk.specs.declared.disk.Opening.{Opening}
use Rattle.rrd_disk.specs.declared.disk.Opening.TheVariants.{Read, Write, Make}

-- a file was opened for this purpose
abbrev pub opened_for : Opening → Event
opened_for Read = Found
opened_for Write = Found
opened_for Make = Made

-- the event of a call that opens a file for this purpose, by its answer
abbrev pub opened : {F : Type 0} → Opening → Option F → Event
opened opening None = Missing
opened opening (Some file) = opened_for opening

-- the events after a look at the path of a file, by the answer
abbrev pub seen : Option Facts → List Event → List Event
seen None events = Missing ∷ events
seen (Some facts) events = events

-- these are so many bytes of the file from an offset on; none may be those of any offset
pub record AreGot (file : List ℕ) (at count : ℕ) (bytes : List ℕ) : Type 0 where
  pub len : length bytes ≡ count
  pub each : (i : ℕ) → i < count → slice_index bytes i ≡ slice_index file (at + i)

-- one call returned the first `n` of these bytes, which the file has from an offset on
pub record IsGotAtOnce (file : List ℕ) (at n : ℕ) (bytes : List ℕ) : Type 0 where
  pub each : AreGot file at n (take n bytes)
  pub within : 0 < n → at + n ≤ length file
  pub ends : n ≡ 0 → 0 < length bytes → length file ≤ at

-- the file has these bytes from an offset on, and if they are fewer than wanted, the file ends after them
pub record IsGot (file : List ℕ) (at n : ℕ) (bytes : List ℕ) : Type 0 where
  pub each : AreGot file at n (take n bytes)
  pub within : 0 < n → at + n ≤ length file
  pub ends : n < length bytes → length file ≤ at + n

-- the first of some bytes were written, at least so many; and of a small write all or none
pub record IsPartPut (least at : ℕ) (bytes old new : List ℕ) : Type 0 where
  pub count : ℕ
  pub few : count ≤ length bytes
  pub enough : least ≤ count
  pub whole : IsTrue (is_small at (length bytes)) → (count ≡ 0) ⊎ (count ≡ length bytes)
  pub put : IsFrontPut at count bytes old new

-- of a small write some bytes were written, and not all: no honest file does so
abbrev pub IsCutShort : ℕ → ℕ → List ℕ → List Event → Type 0
IsCutShort n at bytes events = IsTrue (is_small at (length bytes)) → 0 < n → n < length bytes → (s : World) → IsTrue (is_honest_after s events) → ⊥

-- a record that is honest after some calls was honest before them
abbrev pub Falls : List Event → List Event → Type 0
Falls old new = (s : World) → IsTrue (is_honest_after s new) → IsTrue (is_honest_after s old)

-- the calls made no file and removed none
abbrev pub PlaceStays : List Event → List Event → Type 0
PlaceStays old new = (s : World) → is_there (held_after s new) ≡ is_there (held_after s old)

-- ---- calls that change nothing

-- they changed no byte of the file, and made no file
abbrev pub KeepsHeld : List Event → List Event → Type 0
KeepsHeld old new = (s : World) → held_after s new ≡ held_after s old

-- the same, except that a file that is opened to be made is empty if there was none
abbrev pub KeepsHeldFor : Opening → List Event → List Event → Type 0
KeepsHeldFor Read old new = KeepsHeld old new
KeepsHeldFor Write old new = KeepsHeld old new
KeepsHeldFor Make old new = (s : World) → (held_after s new ≡ held_after s old) ⊎ ((held_after s old ≡ NoFile) × (held_after s new ≡ Bytes []))

-- calls for which the file is opened so: the disk may have no other bytes than before
pub record RestsFor (opening : Opening) (old new : List Event) : Type 0 where
  pub falls : Falls old new
  pub held : KeepsHeldFor opening old new
  pub leave : (d : List ℕ) (w : World) (c : List ℕ) → (world_after d w new).may_leave c → (world_after d w old).may_leave c
  pub keep : (d : List ℕ) (w : World) (c : List ℕ) → (world_after d w new).may_keep c → (world_after d w old).may_keep c

abbrev pub Rests : List Event → List Event → Type 0
Rests old new = RestsFor Read old new

-- ---- calls that change the file

-- they had this effect on the file and its disk, if their answers are honest
pub record Did (effect : Effect) (old new : List Event) : Type 0 where
  pub falls : Falls old new
  pub place : PlaceStays old new
  pub does : (d : List ℕ) (w : World) → IsTrue (is_honest_after w new) → effect (world_after d w old) (world_after d w new)

-- one effect, which may depend on the result, if they ended well, and another one if they failed
abbrev pub DidOr : {A E : Type 0} → (A → Effect) → Effect → Result A E → List Event → List Event → Type 0
DidOr well badly (Ok x) old new = Did (well x) old new
DidOr well badly (Err e) old new = Did badly old new
