-- What the repair of a file with a mark does to one file.
use Rattle.rrd_disk.proofs.Names.{arith, left_represents, ◌≡◌, ℕ, List, Option, Some, Result, Ok, Err, IsErr, IsSome, IsTrue, length, take, sym, ◌∙◌, ap, subst, true, false≢true, database_of, IsFound, IsLeft, LogEnd, Whole, mark_of, IsAtRest, Represents, Effect, Steps, seen, Syncs, FoundDatabase, Base, IsFile, HasOneAnswer, Bytes, Finds, Held, IsAnyFile, Stored, TaskFault, CannotOpen, view_of, Falls, KeepsHeld, Rests, IsSound, StandFor, represented, Event, IsFaultIn, IsStandingIn, is_of_bytes, World, bytes_after, bytes_of, held_after, is_honest_after, IsLoaded, IsPrepared, IsSoundAs, Laws, LoadsMarked, LoadsUnmarked, StaysAs, alone, Standing, Found, Open, Unopened}
use Rattle.rrd_disk.proofs.Asked.{falls_asked}
use Rattle.rrd_disk.proofs.Loaded.{no_file}
use Rattle.rrd_disk.proofs.Resting.{rests_refl}
use Rattle.rrd_disk.proofs.Storing.{any_database, database_unmarked, each_alone, finds_closed, itself, loaded_from, loaded_same, marked_for, represented_standing, sound_standing, stand_sound, stays_open, steps_falls}

-- what a repair does
abbrev pub Repairs : FoundDatabase → Effect
Repairs found w v = (end : LogEnd) (other now : List ℕ) → database_of found ≡ now → IsFound end other now found.mark w → IsAtRest now v

abbrev pub FailsToRepair : FoundDatabase → Effect
FailsToRepair found w v = (end : LogEnd) (other now : List ℕ) → database_of found ≡ now → IsFound end other now found.mark w → IsLeft end other now v

-- the file stands for this database
pub record Stands (now : List ℕ) (old new : Held) : Type 0 where
  pub file : IsAnyFile now
  pub was : represented old ≡ Bytes now
  pub there : new ≡ Bytes (bytes_of new)
  pub represents : Represents now (bytes_of new)

module _ (laws : Laws) (syncs : Syncs) (standing : Standing) (old mid new : List Event) (rests : Rests old mid) (stands : IsStandingIn standing mid) where
  -- a file that a change has left
  module _ (s : World) (now : List ℕ) (before : IsTrue (is_honest_after s mid)) (there : held_after s old ≡ Bytes (bytes_after s old)) (stand : StandFor now (bytes_after s old)) where
    same : bytes_after s mid ≡ bytes_after s old
    same = ap bytes_of (rests.held s)

    stand_mid : StandFor now (bytes_after s mid)
    stand_mid = subst (StandFor now) (sym same) stand

    pub is_database : database_of standing.found ≡ now
    is_database = stands.database s before now stand_mid

    is_marked : IsFound Whole now now standing.found.mark (alone (bytes_after s mid))
    is_marked = marked_for laws now standing.found.mark (bytes_after s mid) stand_mid (stands.mark s before)

    was_there : held_after s mid ≡ Bytes (bytes_after s mid)
    was_there = rests.held s ∙ there ∙ ap (λ (h : Held). Bytes (bytes_of h)) (sym (rests.held s))

    pub was_represented : represented (held_after s old) ≡ Bytes now
    was_represented = represented_standing laws (held_after s old) now stand.is there stand.represents

    pub repaired_is : Steps (Repairs standing.found) (seen syncs (view_of mid)) (seen syncs (view_of new)) → IsTrue (is_honest_after s new) → held_after s new ≡ Bytes now
    repaired_is steps honest =
        let rest = each_alone syncs (Repairs standing.found) mid new steps s honest Whole now now is_database is_marked in
        stays_open mid new (steps_falls syncs (Repairs standing.found) mid new steps) s honest was_there ∙ ap (λ (b : List ℕ). Bytes b) rest.world.held

    pub unrepaired_stands : Steps (FailsToRepair standing.found) (seen syncs (view_of mid)) (seen syncs (view_of new)) → IsTrue (is_honest_after s new) → Stands now (held_after s old) (held_after s new)
    unrepaired_stands steps honest = record {
      file = stand.is;
      was = was_represented;
      there = stays_open mid new (steps_falls syncs (FailsToRepair standing.found) mid new steps) s honest was_there;
      represents = left_represents Whole now now (alone (bytes_after s new)) (each_alone syncs (FailsToRepair standing.found) mid new steps s honest Whole now now is_database is_marked);
    }

-- ---- a file that is prepared

pub unprepared : {E : Type 0} (result : Result (Option Base) E) (old new : Held) → IsErr result → IsSound new → represented new ≡ represented old → IsPrepared result old new
unprepared (Ok x) old new failed sound same = absurd (false≢true failed)
unprepared (Err e) old new failed sound same = (sound, same)

pub stands_unprepared : {E : Type 0} (result : Result (Option Base) E) (laws : Laws) (now : List ℕ) (old new : Held) → IsErr result → Stands now old new → IsPrepared result old new
stands_unprepared result laws now old new failed is = grind (arith, sound_standing new now is.file is.there is.represents, represented_standing laws new now is.file is.there is.represents)

-- the file is this database, which begins so
pub prepared_open : Laws → (now : List ℕ) (base : Base) (old new : Held) → IsAnyFile now → represented old ≡ Bytes now → new ≡ Bytes now → base.length ≡ length now → base.first ≡ take 16 now
    → (represented new ≡ represented old) × StaysAs (Open base) new
prepared_open laws now base old new any was is len first = grind (arith, itself new now is (database_unmarked now (any_database laws now any)), database_unmarked now (any_database laws now any), any_database laws now any)

-- ---- a file that is only read

pub standing_loaded : Laws → (standing : Standing) (old mid : List Event) → KeepsHeld old mid → IsStandingIn standing mid → (s : World) → IsTrue (is_honest_after s mid) → IsSound (held_after s old)
    → held_after s old ≡ Bytes (bytes_after s old) → IsSome (mark_of (bytes_after s old)) → IsLoaded Unopened (Ok (Some standing.database)) (held_after s old) (held_after s mid)
standing_loaded laws standing old mid same stands s honest sound there marked =
    let stand = stand_sound (held_after s old) sound there marked in
    let stand_mid : StandFor stand.0 (bytes_after s mid) = subst (λ (h : Held). StandFor stand.0 (bytes_of h)) (sym (same s)) stand.1 in
    let was = represented_standing laws (held_after s old) stand.0 stand.1.is there stand.1.represents in
    loaded_same Unopened (Ok (Some standing.database)) (held_after s old) (held_after s mid) (same s) (subst IsSound (sym (same s)) sound)
    (subst (λ (h : Held). Finds (Some h) (Ok (Some standing.database))) (sym was) (subst (λ (b : List ℕ). IsFile b standing.database) (stands.database s honest stand.0 stand_mid) stands.file))

pub fault_loaded : Laws → (fault : TaskFault) (old mid : List Event) → KeepsHeld old mid → IsFaultIn fault mid → (s : World) → IsTrue (is_honest_after s mid) → IsSound (held_after s old)
    → held_after s old ≡ Bytes (bytes_after s old) → IsSome (mark_of (bytes_after s old)) → IsLoaded Unopened (Err fault) (held_after s old) (held_after s mid)
fault_loaded laws fault old mid same is s honest sound there marked =
    let stand = stand_sound (held_after s old) sound there marked in
    let stand_mid : StandFor stand.0 (bytes_after s mid) = subst (λ (h : Held). StandFor stand.0 (bytes_of h)) (sym (same s)) stand.1 in
    let was = represented_standing laws (held_after s old) stand.0 stand.1.is there stand.1.represents in
    loaded_same Unopened (Err fault) (held_after s old) (held_after s mid) (same s) (subst IsSound (sym (same s)) sound)
    (subst (λ (h : Held). Finds (Some h) (Err fault)) (sym was) (is.known s honest stand.0 stand_mid))

-- ---- a file that is repaired, and loaded

module _ (laws : Laws) (syncs : Syncs) (standing : Standing) (mid fixed : List Event) (stands : IsStandingIn standing mid) where
  pub loaded_repaired : (found : Found) (result : Result (Option Stored) TaskFault) (new : List Event) → Steps (Repairs standing.found) (seen syncs (view_of mid)) (seen syncs (view_of fixed))
      → Falls fixed new → LoadsUnmarked fixed new found result → LoadsMarked mid new found result
  loaded_repaired found result new steps falls loads = λ s honest sound there marked.
      let stand = stand_sound (held_after s mid) sound there marked in
      let before = falls s honest in
      let first = falls_asked mid fixed (steps_falls syncs (Repairs standing.found) mid fixed steps) s before in
      let is = repaired_is laws syncs standing mid mid fixed (rests_refl mid) stands s stand.0 first there stand.1 steps before in
      let was = was_represented laws syncs standing mid mid fixed (rests_refl mid) stands s stand.0 first there stand.1 in
      let none = database_unmarked stand.0 (any_database laws stand.0 stand.1.is) in
      loaded_from found result (held_after s mid) (held_after s fixed) (held_after s new) (itself (held_after s fixed) stand.0 is none ∙ sym was)
      (loads s honest (is ∙ ap (λ (h : Held). Bytes (bytes_of h)) (sym is)) (ap (λ (h : Held). mark_of (bytes_of h)) is ∙ none))

  -- the repair failed: the file stands for the same database
  still : Steps (FailsToRepair standing.found) (seen syncs (view_of mid)) (seen syncs (view_of fixed)) → (s : World) → IsTrue (is_honest_after s fixed) → IsSound (held_after s mid)
      → held_after s mid ≡ Bytes (bytes_after s mid) → IsSome (mark_of (bytes_after s mid)) → (now : List ℕ) × ((database_of standing.found ≡ now) × Stands now (held_after s mid) (held_after s fixed))
  still steps s honest sound there marked =
      let stand = stand_sound (held_after s mid) sound there marked in
      let first = falls_asked mid fixed (steps_falls syncs (FailsToRepair standing.found) mid fixed steps) s honest in (
        stand.0,
        (
          is_database laws syncs standing mid mid fixed (rests_refl mid) stands s stand.0 first there stand.1,
          unrepaired_stands laws syncs standing mid mid fixed (rests_refl mid) stands s stand.0 first there stand.1 steps honest,
        ),
      )

  pub loaded_unrepaired : (left : Found) → ((h : Held) → IsSound h → IsSoundAs left h) → Steps (FailsToRepair standing.found) (seen syncs (view_of mid)) (seen syncs (view_of fixed))
      → LoadsMarked mid fixed left (Ok (Some standing.database))
  loaded_unrepaired left kept steps = λ s honest sound there marked.
      let is = still steps s honest sound there marked in
      let stand = is.1.1 in
      record {
        sound = kept (held_after s fixed) (sound_standing (held_after s fixed) is.0 stand.file stand.there stand.represents);
        same = represented_standing laws (held_after s fixed) is.0 stand.file stand.there stand.represents ∙ sym stand.was;
        finds = subst (λ (h : Held). Finds (Some h) (Ok (Some standing.database))) (sym stand.was) (subst (λ (b : List ℕ). IsFile b standing.database) is.1.0 stands.file);
      }

  pub closed_unrepaired : (fault : TaskFault) → fault ≡ CannotOpen → Steps (FailsToRepair standing.found) (seen syncs (view_of mid)) (seen syncs (view_of fixed)) → LoadsMarked mid fixed Unopened (Err fault)
  closed_unrepaired fault closed steps = λ s honest sound there marked.
      let is = still steps s honest sound there marked in
      let stand = is.1.1 in
      record {
        sound = sound_standing (held_after s fixed) is.0 stand.file stand.there stand.represents;
        same = represented_standing laws (held_after s fixed) is.0 stand.file stand.there stand.represents ∙ sym stand.was;
        finds = finds_closed fault (Some (represented (held_after s mid))) closed;
      }

-- ---- a file with a mark that is prepared

module _ (laws : Laws) (syncs : Syncs) (standing : Standing) (old mid new : List Event) (rests : Rests old mid) (stands : IsStandingIn standing mid) where
  pub prepared_repaired : (base : Base) → base.length ≡ length (database_of standing.found) → base.first ≡ take 16 (database_of standing.found)
      → Steps (Repairs standing.found) (seen syncs (view_of mid)) (seen syncs (view_of new))
      → (s : World) → IsTrue (is_honest_after s new) → IsSound (held_after s old) → held_after s old ≡ Bytes (bytes_after s old) → IsSome (mark_of (bytes_after s old))
      → (represented (held_after s new) ≡ represented (held_after s old)) × StaysAs (Open base) (held_after s new)
  prepared_repaired base len first steps s honest sound there marked =
      let stand = stand_sound (held_after s old) sound there marked in
      let before = falls_asked mid new (steps_falls syncs (Repairs standing.found) mid new steps) s honest in
      let is = repaired_is laws syncs standing old mid new rests stands s stand.0 before there stand.1 steps honest in
      let was = was_represented laws syncs standing old mid new rests stands s stand.0 before there stand.1 in
      let database = is_database laws syncs standing old mid new rests stands s stand.0 before there stand.1 in
      prepared_open laws stand.0 base (held_after s old) (held_after s new) stand.1.is was is (len ∙ ap (λ (b : List ℕ). length b) database) (first ∙ ap (λ (b : List ℕ). take 16 b) database)

  pub prepared_broken : {E : Type 0} (result : Result (Option Base) E) → IsErr result → Steps (FailsToRepair standing.found) (seen syncs (view_of mid)) (seen syncs (view_of new))
      → (s : World) → IsTrue (is_honest_after s new) → IsSound (held_after s old) → held_after s old ≡ Bytes (bytes_after s old) → IsSome (mark_of (bytes_after s old))
      → IsPrepared result (held_after s old) (held_after s new)
  prepared_broken result failed steps s honest sound there marked =
      let stand = stand_sound (held_after s old) sound there marked in
      let before = falls_asked mid new (steps_falls syncs (FailsToRepair standing.found) mid new steps) s honest in
      let is = unrepaired_stands laws syncs standing old mid new rests stands s stand.0 before there stand.1 steps honest in
      stands_unprepared result laws stand.0 (held_after s old) (held_after s new) failed is

-- a file that a change has left has a database
pub no_fault : ((bytes : List ℕ) → HasOneAnswer bytes) → (fault : TaskFault) (old mid : List Event) → KeepsHeld old mid → IsFaultIn fault mid → is_of_bytes fault ≡ true
    → (s : World) → IsTrue (is_honest_after s mid) → IsSound (held_after s old) → held_after s old ≡ Bytes (bytes_after s old) → IsSome (mark_of (bytes_after s old)) → ⊥
no_fault one fault old mid same is of s honest sound there marked =
    let stand = stand_sound (held_after s old) sound there marked in
    let stand_mid : StandFor stand.0 (bytes_after s mid) = subst (λ (h : Held). StandFor stand.0 (bytes_of h)) (sym (same s)) stand.1 in
    no_file one stand.0 fault (is.known s honest stand.0 stand_mid) of stand.1.is.0 stand.1.is.1
