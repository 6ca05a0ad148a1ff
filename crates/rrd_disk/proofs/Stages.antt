-- What the steps of loading say of one file, one after another.
use Rattle.rrd_disk.proofs.Names.{arith, ◌≡◌, ℕ, true, false, List, Option, Some, None, Result, Ok, Err, IfNone, IfOk, IfSome, IsTrue, OnErr, OnOk, inl, refl, sym, ◌∙◌, ap, subst, mark_of, Base, IsFile, FileSpan, Stored, Bytes, Finds, HasNone, Held, IsAfterFailure, TaskFault, CannotOpen, Falls, KeepsHeld, Rests, world_in, IsSound, contents_after, is_honest_by, represented, Event, TellsMark, IsThere, World, bytes_after, bytes_of, held_after, is_honest_after, HasNoDatabase, IsAsLoaded, IsBased, IsLoaded, IsSoundAs, Laws, Loads, LoadsAs, LoadsMarked, LoadsOpen, LoadsUnmarked, MayDiffer, Prepares, is_sound_by, Found, Unopened, Unwritable, Open, Kept, common_steps}
use Rattle.rrd_store.specs.Storages.{Becomes}
use Rattle.rrd_disk.proofs.Storing.{finds_closed, found_open, itself, loaded_from, loaded_same, sound_as, sound_unmarked, told_unmarked}
use Rattle.rrd_disk.specs.Storing.{Writes}
use Rattle.rrd_disk.specs.declared.storage.Found.TheVariants.{Missing as NotFound}

-- ---- a file without a mark

as_loaded_sound : Laws → (found : Found) (d : Stored) (old new : List Event) (s : World) → IsTrue (is_honest_after s new) → held_after s new ≡ held_after s old
    → held_after s old ≡ Bytes (bytes_after s old) → mark_of (bytes_after s old) ≡ None → IsAsLoaded found new → IsFile (bytes_after s new) d → IsSoundAs found (held_after s new)
as_loaded_sound laws Unopened d old new s honest same there none is file = sound_unmarked (held_after s new) (bytes_after s old) (same ∙ there) none
as_loaded_sound laws (Open base) d old new s honest same there none is file =
    let tells = is s honest in
    found_open laws base (held_after s new) (same ∙ there ∙ ap (λ (h : Held). Bytes (bytes_of h)) (sym same)) (d, file) tells.0 tells.1
as_loaded_sound laws _ d old new s honest same there none is file = absurd is

finds_unmarked : (result : Result (Option Stored) TaskFault) (old new : List Event) (s : World) → held_after s new ≡ held_after s old
    → held_after s old ≡ Bytes (bytes_after s old) → mark_of (bytes_after s old) ≡ None → Finds (Some (Bytes (bytes_after s new))) result → Finds (Some (represented (held_after s old))) result
finds_unmarked result old new s same there none finds = grind (arith, itself)

pub loaded_unmarked : Laws → (found : Found) (d : Stored) (old new : List Event) (s : World) → IsTrue (is_honest_after s new) → held_after s new ≡ held_after s old
    → held_after s old ≡ Bytes (bytes_after s old) → mark_of (bytes_after s old) ≡ None → IsAsLoaded found new → IsFile (bytes_after s new) d
    → IsLoaded found (Ok (Some d)) (held_after s old) (held_after s new)
loaded_unmarked laws found d old new s honest same there none is file = grind (arith, as_loaded_sound laws found d old new s honest same there none is file, finds_unmarked (Ok (Some d)) old new s same there none file)

pub fault_unmarked : (fault : TaskFault) (old new : List Event) (s : World) → held_after s new ≡ held_after s old
    → held_after s old ≡ Bytes (bytes_after s old) → mark_of (bytes_after s old) ≡ None → Finds (Some (Bytes (bytes_after s new))) (Err fault)
    → IsLoaded Unopened (Err fault) (held_after s old) (held_after s new)
fault_unmarked fault old new s same there none finds = grind (arith, sound_unmarked (held_after s new) (bytes_after s old) (same ∙ there) none, finds_unmarked (Err fault) old new s same there none finds)

-- ---- one step after another

-- a file that cannot be opened
pub closed_loaded : (fault : TaskFault) (old new : Held) → fault ≡ CannotOpen → new ≡ old → IsSound old → IsLoaded Unopened (Err fault) old new
closed_loaded fault old new is same sound = loaded_same Unopened (Err fault) old new same (subst IsSound (sym same) sound) (finds_closed fault (Some (represented old)) is)

module _ (found : Found) (result : Result (Option Stored) TaskFault) (old mid new : List Event) (same : KeepsHeld old mid) (falls : Falls mid new) where
  there_mid : (s : World) → held_after s old ≡ Bytes (bytes_after s old) → held_after s mid ≡ Bytes (bytes_after s mid)
  there_mid s there = same s ∙ there ∙ ap (λ (h : Held). Bytes (bytes_of h)) (sym (same s))

  sound_mid : (s : World) → IsSound (held_after s old) → IsSound (held_after s mid)
  sound_mid s sound = subst IsSound (sym (same s)) sound

  onward : (s : World) → IsLoaded found result (held_after s mid) (held_after s new) → IsLoaded found result (held_after s old) (held_after s new)
  onward s is = loaded_from found result (held_after s old) (held_after s mid) (held_after s new) (ap represented (same s)) is

  pub marked_from : LoadsMarked mid new found result → LoadsMarked old new found result
  marked_from loads = grind (arith, common_steps, onward, sound_mid, there_mid)

  pub open_from_marked : TellsMark true mid → LoadsMarked mid new found result → LoadsOpen old new found result
  open_from_marked tells loads = grind (arith, common_steps, onward, sound_mid, there_mid)

  pub open_from_unmarked : TellsMark false mid → LoadsUnmarked mid new found result → LoadsOpen old new found result
  open_from_unmarked tells loads = grind (arith, common_steps, onward, there_mid, told_unmarked)

  pub loads_from : IsThere mid → LoadsOpen mid new found result → Loads old new found result
  loads_from there loads = λ s honest sound. onward s (loads s honest (sound_mid s sound) (there s (falls s honest)))

-- a file of which only the result of a load is kept
pub loaded_as : (found left : Found) (result : Result (Option Stored) TaskFault) (old new : Held) → (IsSound new → IsSoundAs left new) → IsLoaded found result old new → IsLoaded left result old new
loaded_as found left result old new kept is = record { sound = kept (sound_as found new is.sound); same = is.same; finds = is.finds }

-- ---- a file that is prepared

-- it has no mark
pub prepared_unmarked : {E : Type 0} → Laws → (result : Result (Option Base) E) (old mid new : List Event) → KeepsHeld old mid → Rests mid new → TellsMark false mid
    → IfOk result (λ found. IfSome found (λ base. IsBased base new)) → IfOk result (λ found. IfNone found (HasNoDatabase new)) → Prepares old new result
prepared_unmarked laws (Ok (Some base)) old mid new same rests tells some none = λ s honest sound there.
    let held = rests.held s ∙ same s in
    let is = some s honest in
    (ap represented held, found_open laws base (held_after s new) (held ∙ there ∙ ap (λ (h : Held). Bytes (bytes_of h)) (sym held)) is.0 is.1 is.2)
prepared_unmarked laws (Ok None) old mid new same rests tells some none = λ s honest sound there.
    let held = rests.held s ∙ same s in
    let unmarked = told_unmarked false (mark_of (bytes_after s mid)) (tells s (rests.falls s honest)) refl in
    let was : mark_of (bytes_after s old) ≡ None = ap (λ (h : Held). mark_of (bytes_of h)) (sym (same s)) ∙ unmarked in
    (held, subst HasNone (ap (λ (h : Held). Bytes (bytes_of h)) held ∙ sym (itself (held_after s old) (bytes_after s old) there was)) (none s honest))
prepared_unmarked laws (Err error) old mid new same rests tells some none = grind arith

-- ---- what a storage promises

-- a file that is there, and is the same
pub open_kept : (old mid : Held) → mid ≡ old → old ≡ Bytes (bytes_of old) → mid ≡ Bytes (bytes_of mid)
open_kept old mid same is = subst (λ (h : Held). h ≡ Bytes (bytes_of h)) (sym same) is

-- a load that failed, and closed the file
pub loads_closed : (found left : Found) (old new : List Event) (result : Result (Option Stored) TaskFault) → LoadsAs found old new left result
    → (s : Option Held) → is_honest_by s new → is_sound_by s found old → is_sound_by s Unopened new
loads_closed found left old new result loads None honest sound = tt
loads_closed found left old new result loads (Some code) honest sound = sound_as left (held_after (world_in code) new) (loads (world_in code) honest sound).sound

module _ (E : Type 0) (found left : Found) (changed : List FileSpan) (bytes : List ℕ) (old new : List Event) where
  pub written_sound : (result : Result (Unit {0}) E) → ((h : Held) → MayDiffer changed h bytes) → Writes found left changed bytes old new result
      → (s : Option Held) → is_honest_by s new → is_sound_by s found old → is_sound_by s left new
  written_sound result differs writes None honest sound = tt
  written_sound result differs writes (Some code) honest sound = (writes (world_in code) honest sound (differs (represented (held_after (world_in code) old)))).0

  ok_by : ((h : Held) → MayDiffer changed h bytes) → Writes {E = E} found left changed bytes old new (Ok tt)
      → (s : Option Held) → is_honest_by s new → is_sound_by s found old → Becomes (contents_after s old) (contents_after s new) bytes
  ok_by differs writes None honest sound = tt
  ok_by differs writes (Some code) honest sound = ap (λ (h : Held). Some h) (writes (world_in code) honest sound (differs (represented (held_after (world_in code) old)))).1

  pub written_ok : (result : Result (Unit {0}) E) → ((h : Held) → MayDiffer changed h bytes) → Writes found left changed bytes old new result
      → OnOk result ((s : Option Held) → is_honest_by s new → is_sound_by s found old → Becomes (contents_after s old) (contents_after s new) bytes)
  written_ok (Ok x) differs writes = ok_by differs writes
  written_ok (Err e) differs writes = tt

  err_by : (e : E) → ((h : Held) → MayDiffer changed h bytes) → Writes found left changed bytes old new (Err e)
      → (s : Option Held) → is_honest_by s new → is_sound_by s found old → IsAfterFailure (contents_after s old) (contents_after s new) bytes
  err_by e differs writes None honest sound = inl tt
  err_by e differs writes (Some code) honest sound = (writes (world_in code) honest sound (differs (represented (held_after (world_in code) old)))).1

  pub written_err : (result : Result (Unit {0}) E) → ((h : Held) → MayDiffer changed h bytes) → Writes found left changed bytes old new result
      → OnErr result ((s : Option Held) → is_honest_by s new → is_sound_by s found old → IsAfterFailure (contents_after s old) (contents_after s new) bytes)
  written_err (Ok x) differs writes = tt
  written_err (Err e) differs writes = err_by e differs writes
