-- Definition: what is known of a file that is changed, and what calls do to it.
use Rattle.std.specs.Prelude.{◌≡◌, ◌⊎◌, ℕ, Bool, IsTrue, List, length, Result, Ok, Err}
use Rattle.rrd_change.specs.Calls.{AreAny, AreAt, AreMixed, ArePut, AreRestored, AreWholeOrNot, IsCut, IsFrontPut, IsSized, IsSizedOrNot, IsTorn}
use Rattle.rrd_change.specs.declared.calls.Syncs.{Syncs}
use Rattle.rrd_change.specs.declared.calls.Syncs.TheVariants.{Never, Ordered}

-- a file at one time: the bytes that programs read; the bytes that the disk may have if the power fails now; and the bytes
-- that the disk may have after a sync that ends well. After a sync that failed, these need not be the bytes that programs
-- read: the system then counts pages as stored that the disk may lack
pub record World : Type 1 where
  pub held : List ℕ
  pub may_leave : List ℕ → Type 0
  pub may_keep : List ℕ → Type 0

-- what is known of a file: whether all answers so far were honest, if the file had the bytes `s` before its first call; and the
-- file at this time, if the disk had the bytes `d` then
pub record View : Type 1 where
  pub is_honest : List ℕ → Bool
  pub world : List ℕ → List ℕ → World

-- ---- what calls do

abbrev pub Effect : Type 1
Effect = World → World → Type 0

-- an effect on a file whose answers are honest. A file that was not honest once stays so
pub record Steps (effect : Effect) (old new : View) : Type 0 where
  pub falls : (s : List ℕ) → IsTrue (new.is_honest s) → IsTrue (old.is_honest s)
  pub does : (d s : List ℕ) → IsTrue (new.is_honest s) → effect (old.world d s) (new.world d s)

-- one effect, which may depend on the result, if a call ends well, and another one if it fails
abbrev pub Does : {A E : Type 0} → (A → Effect) → Effect → Result A E → View → View → Type 0
Does well badly (Ok x) old new = Steps (well x) old new
Does well badly (Err e) old new = Steps badly old new

-- ---- one call

-- nothing changes
pub record Stays (old new : World) : Type 0 where
  pub held : new.held ≡ old.held
  pub leave : (c : List ℕ) → new.may_leave c → old.may_leave c
  pub keep : (c : List ℕ) → new.may_keep c → old.may_keep c

-- a write or a change of the length: one relation says what becomes of the bytes that programs read, and of those that a sync
-- will store; another one what becomes of the bytes that the disk may have at once
pub record Moves (call torn : List ℕ → List ℕ → Type 0) (old new : World) : Type 0 where
  pub held : call old.held new.held
  pub leave : (c : List ℕ) → new.may_leave c → (b : List ℕ) × old.may_leave b × torn b c
  pub keep : (c : List ℕ) → new.may_keep c → (b : List ℕ) × old.may_keep b × call b c

-- a sync that ends well: the disk has what was to be stored
pub record IsSynced (old new : World) : Type 0 where
  pub held : new.held ≡ old.held
  pub leave : (c : List ℕ) → new.may_leave c → old.may_keep c
  pub keep : (c : List ℕ) → new.may_keep c → old.may_keep c

-- a sync that fails: later syncs may leave on the disk what it has now
pub record IsUnsynced (old new : World) : Type 0 where
  pub held : new.held ≡ old.held
  pub leave : (c : List ℕ) → new.may_leave c → old.may_leave c
  pub keep : (c : List ℕ) → new.may_keep c → old.may_keep c ⊎ old.may_leave c

-- the length of the file is read, or bytes of it are
abbrev pub Counts : ℕ → Effect
Counts n old new = Stays old new × (n ≡ length old.held)

abbrev pub Reads : ℕ → ℕ → List ℕ → Effect
Reads at count into old new = Stays old new × AreAt old.held at count into

-- the first `n` of these bytes are written
abbrev pub Writes : ℕ → List ℕ → ℕ → Effect
Writes at bytes n old new = Moves (IsFrontPut at n bytes) (AreAny at (length bytes)) old new

abbrev pub FailsToWrite : ℕ → List ℕ → Effect
FailsToWrite at bytes old new = Moves (IsCut at bytes) (AreAny at (length bytes)) old new

-- bytes within one sector are written
abbrev pub WritesWhole : ℕ → List ℕ → Effect
WritesWhole at bytes old new = Moves (ArePut at bytes) (IsTorn at bytes) old new

abbrev pub FailsToWriteWhole : ℕ → List ℕ → Effect
FailsToWriteWhole at bytes old new = Moves (AreWholeOrNot at bytes) (IsTorn at bytes) old new

-- the first bytes of the file are written, at most a page
abbrev pub WritesPage : List ℕ → Effect
WritesPage bytes old new = Moves (ArePut 0 bytes) (AreAny 0 (length bytes)) old new

abbrev pub FailsToWritePage : List ℕ → Effect
FailsToWritePage bytes old new = Moves (AreWholeOrNot 0 bytes) (AreAny 0 (length bytes)) old new

abbrev pub Sizes : ℕ → Effect
Sizes count old new = Moves (IsSized count) (IsSizedOrNot count) old new

abbrev pub FailsToSize : ℕ → Effect
FailsToSize count old new = Moves (IsSizedOrNot count) (IsSizedOrNot count) old new

-- ---- calls and a sync

-- a file that is never synced: of its disk nothing is claimed
abbrev pub seen : Syncs → View → View
seen Ordered v = v
seen Never v = record { is_honest = v.is_honest; world = λ d s. record { held = (v.world d s).held; may_leave = λ c. ⊥; may_keep = λ c. ⊥ } }

-- all is on the disk
pub record Stores (call : List ℕ → List ℕ → Type 0) (old new : World) : Type 0 where
  pub held : call old.held new.held
  pub leave : (c : List ℕ) → new.may_leave c → (b : List ℕ) × old.may_keep b × call b c
  pub keep : (c : List ℕ) → new.may_keep c → (b : List ℕ) × old.may_keep b × call b c

-- a call or the sync failed
pub record Fails (call torn : List ℕ → List ℕ → Type 0) (old new : World) : Type 0 where
  pub held : call old.held new.held
  pub leave : (c : List ℕ) → new.may_leave c → (b : List ℕ) × old.may_leave b × torn b c
  pub keep : (c : List ℕ) → new.may_keep c → (b : List ℕ) × ((old.may_keep b × call b c) ⊎ (old.may_leave b × torn b c))

-- ---- bytes that are written again

-- bytes are written again as programs read them, sector by sector, since the disk may lack them
pub record Restores (from end : ℕ) (old new : World) : Type 0 where
  pub held : new.held ≡ old.held
  pub leave : (c : List ℕ) → new.may_leave c → (b : List ℕ) × old.may_leave b × AreMixed old.held from end b c
  pub keep : (c : List ℕ) → new.may_keep c → (b : List ℕ) × old.may_keep b × AreRestored old.held from end b c

-- one of the writes failed
pub record FailsToRestore (from end : ℕ) (old new : World) : Type 0 where
  pub held : new.held ≡ old.held
  pub leave : (c : List ℕ) → new.may_leave c → (b : List ℕ) × old.may_leave b × AreMixed old.held from end b c
  pub keep : (c : List ℕ) → new.may_keep c → (b : List ℕ) × (old.may_keep b ⊎ old.may_leave b) × AreMixed old.held from end b c

-- all are on the disk again
pub record StoresAgain (from end : ℕ) (old new : World) : Type 0 where
  pub held : new.held ≡ old.held
  pub leave : (c : List ℕ) → new.may_leave c → (b : List ℕ) × old.may_keep b × AreRestored old.held from end b c
  pub keep : (c : List ℕ) → new.may_keep c → (b : List ℕ) × old.may_keep b × AreRestored old.held from end b c

-- ---- states

-- the file has these properties, and whatever the disk may have has them too
pub record All (G : List ℕ → Type 0) (w : World) : Type 0 where
  pub held : G w.held
  pub leave : (c : List ℕ) → w.may_leave c → G c
  pub keep : (c : List ℕ) → w.may_keep c → G c

-- the bytes that programs read are these, and those of the disk have the properties
pub record IsHeld (bytes : List ℕ) (G : List ℕ → Type 0) (w : World) : Type 0 where
  pub held : w.held ≡ bytes
  pub leave : (c : List ℕ) → w.may_leave c → G c
  pub keep : (c : List ℕ) → w.may_keep c → G c
