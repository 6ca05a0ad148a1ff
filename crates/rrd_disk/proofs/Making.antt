-- A file that is made, for a failure of the power: whatever is left of it stands for its database, or for none.
use Rattle.rrd_disk.proofs.Names.{common_steps, ◌≡◌, ◌∙◌, ℕ, Bool, List, [], ◌∷◌, ◌++◌, Option, Some, None, Result, Ok, Err, IsErr, IsTrue, OnOk, slice_index, arith, inl, inr, refl, sym, ap, subst, and_parts, true≢false, rest_stands, IsSizedOrNot, IsEmpty, IsUnmade, AllStand, mark_of, settled, IsAtRest, All, Stays, Steps, seen, Syncs, Ordered, Base, file_end, Bytes, Held, IsAnyFile, IsFile, IsNoFile, NoFile, view_of, Falls, RestsFor, IsSound, Event, Made, NotFound, are_failed, interrupted, TellsMark, IsThere, world_after, World, bytes_after, failures, held_after, is_honest_after, is_honest_of, left, part_after, IsPrepared, Laws, Prepares, DoesOr, IsMade, IsMadeOrNone, IsMaking, Opening, Make, BeganAs, IsLeftAs, IsOpen, Found, Unopened, Unwritable, Open, Kept, Whole, Had, IsBare, IsMadeAs, IsUnmadeOr, Lacks, Makes, MakesOrNot, MakesSafely, StaysUnmarked}
use Rattle.rrd_disk.proofs.Doing.{steps_each}
use Rattle.rrd_disk.proofs.Failures.{cut_off}
use Rattle.rrd_disk.proofs.Kills.{cut, interrupted_as, left_missing, there_is}
use Rattle.rrd_disk.proofs.Powering.{rests_stay}
use Rattle.rrd_disk.proofs.Resting.{held_is}
use Rattle.rrd_disk.proofs.Safe.{became_as}
use Rattle.rrd_disk.proofs.Storing.{file_database, sound_unmarked, unmarked_itself, whole_end, zero_unmarked}
use Rattle.rrd_disk.proofs.Writing.{Creates, FailsToCreate, FailsToTruncate, Truncates, database_none, emptied, zero_database}
use Rattle.rrd_change.specs.Views as views
use Rattle.rrd_disk.specs.declared.storage.Found.TheVariants.{Missing}

-- ---- what a file that is made stands for

module _ (laws : Laws) (bytes : List ℕ) (any : IsAnyFile bytes) where
  unmade_is : (c : List ℕ) → IsUnmade bytes c → IsMadeOrNone bytes (settled file_end c)
  unmade_is c (inl zeroed) =
      inr (subst IsNoFile (sym (unmarked_itself c (zero_unmarked c zeroed))) (λ d file. zero_database c zeroed (file_database laws c d file)))
  unmade_is c (inr is) = inl (ap (settled file_end) is ∙ unmarked_itself bytes (database_none laws bytes any))

  unmade_stand : (w : views.World) → All (IsUnmade bytes) w → AllStand file_end (IsMadeOrNone bytes) w
  unmade_stand w all = grind (arith, common_steps, unmade_is)

  made_stand : (w : views.World) → IsAtRest bytes w → AllStand file_end (λ b. b ≡ bytes) w
  made_stand w rest = rest_stands file_end bytes w (whole_end laws bytes any) rest

  made_or_none : (w : views.World) → IsAtRest bytes w → AllStand file_end (IsMadeOrNone bytes) w
  made_or_none w rest =
      let all = made_stand w rest in
      record { held = inl all.held; left = λ c may. inl (all.left c may); later = λ c may. inl (all.later c may) }

-- ---- a file without bytes

empty_zero : (c : List ℕ) → c ≡ [] → slice_index c 0 ≡ 0
empty_zero c is = ap (λ (b : List ℕ). slice_index b 0) is

empty_unmade : (bytes : List ℕ) (w : views.World) → IsEmpty w → All (IsUnmade bytes) w
empty_unmade bytes w empty = grind arith

pub stays_empty : (u v : views.World) → Stays u v → IsEmpty u → IsEmpty v
stays_empty u v same empty = grind arith

pub zero_bare : Laws → (c : List ℕ) → slice_index c 0 ≡ 0 → IsBare c
zero_bare laws c zeroed = (zero_unmarked c zeroed, λ d file. zero_database c zeroed (file_database laws c d file))

pub empty_bare : Laws → (c : List ℕ) → c ≡ [] → IsBare c
empty_bare laws c is = zero_bare laws c (empty_zero c is)

-- ---- a file without a mark

pub rests_unmarked : (opening : Opening) (old new : List Event) → RestsFor opening old new → StaysUnmarked old new
rests_unmarked opening old new rests d w honest none = rests_stay opening old new rests d w

still_unmarked : (d : List ℕ) (w : World) (old mid : List Event) → Stays (world_after d w old) (world_after d w mid) → mark_of (bytes_after w old) ≡ None → mark_of (bytes_after w mid) ≡ None
still_unmarked d w old mid same none = ap mark_of (sym (held_is d w mid) ∙ same.held ∙ held_is d w old) ∙ none

pub unmarked_twice : (old mid new : List Event) → Falls mid new → StaysUnmarked old mid → StaysUnmarked mid new → StaysUnmarked old new
unmarked_twice old mid new falls first second d w honest none = grind (arith, still_unmarked)

-- it has none, so no calls follow that one would have had
pub marked_never : (is : Bool) (old mid new : List Event) → Falls mid new → StaysUnmarked old mid → TellsMark is mid → IsTrue is → StaysUnmarked old new
marked_never is old mid new falls first tells marked d w honest none = grind (arith, still_unmarked)

module _ (d : List ℕ) (w : World) (old new : List Event) where
  bare_unmarked : IsBare (world_after d w old).held → mark_of (bytes_after w old) ≡ None
  bare_unmarked bare = ap mark_of (sym (held_is d w old)) ∙ bare.0

  pub bare_stays : StaysUnmarked old new → IsTrue (is_honest_after w new) → IsBare (world_after d w old).held → Stays (world_after d w old) (world_after d w new)
  bare_stays stays honest bare = stays d w honest (bare_unmarked bare)

-- ---- what is left of a file that is made

module _ (bytes : List ℕ) (u v : views.World) where
  had_before : (c : List ℕ) → Stays u v → Had v c → Had u c
  had_before c same (inl is) = inl (is ∙ same.held)
  had_before c same (inr (inl may)) = inr (inl (same.leave c may))
  had_before c same (inr (inr may)) = inr (inr (same.keep c may))

  unmade_had : All (IsUnmade bytes) v → All (IsUnmadeOr bytes u) v
  unmade_had all = record { held = inl all.held; leave = λ c may. inl (all.leave c may); keep = λ c may. inl (all.keep c may) }

  pub stays_had : Stays u v → All (IsUnmadeOr bytes u) v
  stays_had same = record { held = inr (inl same.held); leave = λ c may. inr (inr (inl (same.leave c may))); keep = λ c may. inr (inr (inr (same.keep c may))) }

unmade_before : (bytes : List ℕ) (u v : views.World) (c : List ℕ) → Stays u v → IsUnmadeOr bytes v c → IsUnmadeOr bytes u c
unmade_before bytes u v c same (inl unmade) = inl unmade
unmade_before bytes u v c same (inr had) = inr (had_before bytes u v c same had)

-- ---- truncated to no bytes

truncated_empty : (w v : views.World) → Truncates w v → IsEmpty v
truncated_empty w v sized = grind (arith, emptied)

sized_had : (bytes : List ℕ) (w : views.World) (b c : List ℕ) → Had w b → IsSizedOrNot 0 b c → IsUnmadeOr bytes w c
sized_had bytes w b c had (inl same) = inr (subst (Had w) (sym same) had)
sized_had bytes w b c had (inr sized) = inl (inl (empty_zero c (emptied c sized.len)))

untruncated_had : (bytes : List ℕ) (w v : views.World) → FailsToTruncate w v → All (IsUnmadeOr bytes w) v
untruncated_had bytes w v fails = grind (arith, common_steps, sized_had)

-- ---- the steps

-- nothing was written
pub unmade_by : {E : Type 0} (found : Found) (bytes : List ℕ) (r : Result (Unit {0}) E) (syncs : Syncs) (old new : List Event) → IsErr r
    → ((d : List ℕ) (w : World) → IsTrue (is_honest_after w new) → Lacks found (world_after d w old) → Stays (world_after d w old) (world_after d w new)) → DoesOr (λ x. Makes found bytes) (MakesOrNot found bytes) r syncs old new
unmade_by found bytes (Ok x) syncs old new failed stays = absurd (true≢false (sym failed))
unmade_by found bytes (Err e) syncs old new failed stays = λ ordered d w honest lacks. stays_had bytes (world_after d w old) (world_after d w new) (stays d w honest lacks)

ordered_each : (effect : views.Effect) (one : Syncs) (old new : List Event) → one ≡ Ordered → Steps effect (seen one (view_of old)) (seen one (view_of new)) → (d : List ℕ) (w : World) → IsTrue (is_honest_after w new)
    → effect (world_after d w old) (world_after d w new)
ordered_each effect one old new ordered steps d w honest = grind (arith, common_steps, steps_each)

module _ (bytes : List ℕ) (old mid new : List Event) (syncs one : Syncs) (is : one ≡ syncs) where
  -- in place of bytes that are no database
  pub untruncated_making : {E : Type 0} (r : Result (Unit {0}) E) → IsErr r → Steps FailsToTruncate (seen one (view_of old)) (seen one (view_of mid)) → DoesOr (λ x. Makes Unopened bytes) (MakesOrNot Unopened bytes) r syncs old mid
  untruncated_making (Ok x) failed steps = absurd (true≢false (sym failed))
  untruncated_making (Err e) failed steps = grind (arith, common_steps, untruncated_had, ordered_each)

  pub created_making : Steps Truncates (seen one (view_of old)) (seen one (view_of mid)) → Falls mid new → Steps (Creates bytes) (seen one (view_of mid)) (seen one (view_of new))
      → syncs ≡ Ordered → (d : List ℕ) (w : World) → IsTrue (is_honest_after w new) → Makes Unopened bytes (world_after d w old) (world_after d w new)
  created_making first falls then ordered d w honest bare =
      ordered_each (Creates bytes) one mid new (is ∙ ordered) then d w honest
      (truncated_empty (world_after d w old) (world_after d w mid) (ordered_each Truncates one old mid (is ∙ ordered) first d w (falls w honest)))

  pub uncreated_making : Steps Truncates (seen one (view_of old)) (seen one (view_of mid)) → Falls mid new → Steps (FailsToCreate bytes) (seen one (view_of mid)) (seen one (view_of new))
      → syncs ≡ Ordered → (d : List ℕ) (w : World) → IsTrue (is_honest_after w new) → MakesOrNot Unopened bytes (world_after d w old) (world_after d w new)
  uncreated_making first falls then ordered d w honest bare =
      unmade_had bytes (world_after d w old) (world_after d w new)
      (ordered_each (FailsToCreate bytes) one mid new (is ∙ ordered) then d w honest
      (truncated_empty (world_after d w old) (world_after d w mid) (ordered_each Truncates one old mid (is ∙ ordered) first d w (falls w honest))))

  -- where there was no file
  made_empty : RestsFor Make old mid → (d : List ℕ) (w : World) → IsEmpty (world_after d w old) → IsEmpty (world_after d w mid)
  made_empty rests d w empty = stays_empty (world_after d w old) (world_after d w mid) (rests_stay Make old mid rests d w) empty

  pub new_making : RestsFor Make old mid → Steps (Creates bytes) (seen one (view_of mid)) (seen one (view_of new)) → syncs ≡ Ordered → (d : List ℕ) (w : World) → IsTrue (is_honest_after w new)
      → Makes Missing bytes (world_after d w old) (world_after d w new)
  new_making rests steps ordered d w honest empty = ordered_each (Creates bytes) one mid new (is ∙ ordered) steps d w honest (made_empty rests d w empty)

  pub new_unmade : {E : Type 0} (r : Result (Unit {0}) E) → IsErr r → RestsFor Make old mid → Steps (FailsToCreate bytes) (seen one (view_of mid)) (seen one (view_of new))
      → DoesOr (λ x. Makes Missing bytes) (MakesOrNot Missing bytes) r syncs old new
  new_unmade (Ok x) failed rests steps = absurd (true≢false (sym failed))
  new_unmade (Err e) failed rests steps = grind (arith, common_steps, unmade_had, ordered_each, made_empty)

-- ---- a file that is opened to be made, and prepared

module _ (laws : Laws) (bytes : List ℕ) (old made mid new : List Event) (rests : RestsFor Make old made) (keeps : StaysUnmarked made mid) (ready : Falls made mid) (falls : Falls mid new) where
  prepared_stays : (d : List ℕ) (w : World) → IsTrue (is_honest_after w mid) → IsBare (world_after d w old).held → Stays (world_after d w old) (world_after d w mid)
  prepared_stays d w honest bare = bare_stays d w old mid (unmarked_twice old made mid ready (rests_unmarked Make old made rests) keeps) honest bare

  -- it has no database
  not_ready : {E : Type 0} (result : Result (Option Base) E) (base : Base) → result ≡ Ok (Some base) → IsThere made → Prepares made mid result
      → (d : List ℕ) (w : World) → IsTrue (is_honest_after w new) → IsBare (world_after d w old).held → ⊥
  not_ready {E} result base is there prepares d w honest bare =
      let before = falls w honest in
      let opened = ready w before in
      let none = still_unmarked d w old made (rests_stay Make old made rests d w) (bare_unmarked d w old made bare) in
      let sound : IsSound (held_after w made) = sound_unmarked (held_after w made) (bytes_after w made) (there w opened) none in
      let now = subst (λ (r : Result (Option Base) E). IsPrepared r (held_after w made) (held_after w mid)) is (prepares w before sound (there w opened)) in
      let same : bytes_after w mid ≡ now.1.now = now.1.state.1.world.held in
      let gone : now.1.now ≡ (world_after d w old).held = sym same ∙ sym (held_is d w mid) ∙ (prepared_stays d w before bare).held in
      bare.1 now.1.file.0 (subst (λ (b : List ℕ). IsFile b now.1.file.0) gone now.1.file.1)

  pub over_making : {E F : Type 0} (r : Result (Unit {0}) F) (syncs : Syncs) (result : Result (Option Base) E) (base : Base) → result ≡ Ok (Some base) → IsThere made → Prepares made mid result
      → DoesOr (λ x. Makes Unopened bytes) (MakesOrNot Unopened bytes) r syncs old new
  over_making (Ok x) syncs result base is there prepares = λ ordered d w honest bare. absurd (not_ready result base is there prepares d w honest bare)
  over_making (Err e) syncs result base is there prepares = λ ordered d w honest bare. absurd (not_ready result base is there prepares d w honest bare)

  still_bare : (d : List ℕ) (w : World) → IsTrue (is_honest_after w mid) → IsBare (world_after d w old).held → IsBare (world_after d w mid).held
  still_bare d w honest bare = subst IsBare (sym (prepared_stays d w honest bare).held) bare

  pub first_making : {E : Type 0} (r : Result (Unit {0}) E) (syncs two : Syncs) → two ≡ syncs → DoesOr (λ x. Makes Unopened bytes) (MakesOrNot Unopened bytes) r two mid new
      → DoesOr (λ x. Makes Unopened bytes) (MakesOrNot Unopened bytes) r syncs old new
  first_making (Ok x) syncs two is does = λ ordered d w honest bare. does (is ∙ ordered) d w honest (still_bare d w (falls w honest) bare)
  first_making (Err e) syncs two is does = grind (arith, common_steps, still_bare, prepared_stays, unmade_before)

-- ---- the state in which the file is left

made_as : (left : Found) (bytes : List ℕ) (v : views.World) → BeganAs bytes left → IsAtRest bytes v → IsAtRest bytes v × IsLeftAs left Whole bytes bytes v
made_as left bytes v began rest = (rest, became_as left bytes v began rest)

pub made_safely : {E : Type 0} (r : Result (Unit {0}) E) (found left : Found) (bytes : List ℕ) (syncs : Syncs) (old new : List Event) → OnOk r (BeganAs bytes left)
    → DoesOr (λ x. Makes found bytes) (MakesOrNot found bytes) r syncs old new → MakesSafely syncs found left bytes old new r
made_safely (Ok x) found left bytes syncs old new began does = λ ordered d w honest lacks. made_as left bytes (world_after d w new) began (does ordered d w honest lacks)
made_safely (Err e) found left bytes syncs old new began does = does

-- no call was made, and it failed
pub unmade_safely : {E : Type 0} (r : Result (Unit {0}) E) (found left : Found) (bytes : List ℕ) (syncs : Syncs) (events : List Event) → IsErr r → MakesSafely syncs found left bytes events events r
unmade_safely (Ok x) found left bytes syncs events failed = absurd (true≢false (sym failed))
unmade_safely (Err e) found left bytes syncs events failed = grind arith

pub found_making : {E : Type 0} (r : Result (Unit {0}) E) (was is left : Found) (bytes : List ℕ) (syncs : Syncs) (old new : List Event) → was ≡ is
    → MakesSafely syncs is left bytes old new r → MakesSafely syncs was left bytes old new r
found_making r was is left bytes syncs old new same makes = subst (λ (f : Found). MakesSafely syncs f left bytes old new r) (sym same) makes

-- a file that was found open has a database
pub open_making : {E : Type 0} (r : Result (Unit {0}) E) (found left : Found) (bytes : List ℕ) (syncs : Syncs) (old new : List Event) → IsOpen found → MakesSafely syncs found left bytes old new r
open_making r (Open base) left bytes syncs old new opened = λ ordered d w honest lacks. absurd lacks
open_making r (Kept base log) left bytes syncs old new opened = λ ordered d w honest lacks. absurd lacks
open_making r _ left bytes syncs old new opened = absurd opened

-- the file was closed then
pub closed_making : {E : Type 0} (r : Result (Unit {0}) E) (found left : Found) (bytes : List ℕ) (syncs : Syncs) (old new : List Event) → MakesSafely syncs found left bytes old new r → MakesSafely syncs found Unopened bytes old new r
closed_making (Ok x) found left bytes syncs old new makes = grind arith
closed_making (Err e) found left bytes syncs old new makes = makes

-- the state does not matter after a failure
pub failed_making : {E : Type 0} (r : Result (Unit {0}) E) (found left last : Found) (bytes : List ℕ) (syncs : Syncs) (old new : List Event) → IsErr r → MakesSafely syncs found left bytes old new r → MakesSafely syncs found last bytes old new r
failed_making (Ok x) found left last bytes syncs old new failed makes = absurd (true≢false (sym failed))
failed_making (Err e) found left last bytes syncs old new failed makes = makes

-- ---- a record that begins so

empty_start : (w : World) → w.start ≡ NoFile → IsEmpty (world_after [] w [])
empty_start w missing = grind arith

had_none : (w : views.World) (c : List ℕ) → IsEmpty w → Had w c → c ≡ []
had_none w c empty (inl is) = is ∙ empty.held
had_none w c empty (inr (inl may)) = empty.leave c may
had_none w c empty (inr (inr may)) = empty.keep c may

unmade_only : (bytes : List ℕ) (w : views.World) (c : List ℕ) → IsEmpty w → IsUnmadeOr bytes w c → IsUnmade bytes c
unmade_only bytes w c empty (inl unmade) = unmade
unmade_only bytes w c empty (inr had) = inl (empty_zero c (had_none w c empty had))

abbrev Making : {E : Type 0} → Found → List ℕ → Result (Unit {0}) E → List Event → List Event → Type 0
Making left bytes r old new = MakesSafely Ordered Unopened left bytes old new r

pub making_ordered : {E : Type 0} (left : Found) (bytes : List ℕ) (syncs : Syncs) (r : Result (Unit {0}) E) (old new : List Event) → syncs ≡ Ordered → MakesSafely syncs Unopened left bytes old new r → Making left bytes r old new
making_ordered left bytes syncs r old new ordered does = subst (λ (y : Syncs). MakesSafely y Unopened left bytes old new r) ordered does

module _ (laws : Laws) (left : Found) (bytes : List ℕ) (any : IsAnyFile bytes) where
  begun_step : {E : Type 0} (r : Result (Unit {0}) E) (old new : List Event) → old ≡ [] → Making left bytes r old new → (w : World) → IsTrue (is_honest_after w new) → w.start ≡ NoFile
      → IsMadeAs r left bytes (world_after [] w []) (world_after [] w new)
  begun_step r old new begun does w honest missing = grind (arith, common_steps, empty_bare)

  pub making_begun : {E : Type 0} (r : Result (Unit {0}) E) (old new : List Event) → old ≡ [] → Making left bytes r old new → IsMaking bytes new
  making_begun {E} (Ok x) old new begun does w honest missing = made_or_none laws bytes any (world_after [] w new) (begun_step {E = E} (Ok x) old new begun does w honest missing).0
  making_begun {E} (Err e) old new begun does w honest missing =
      let all = begun_step {E = E} (Err e) old new begun does w honest missing in
      let u = world_after [] w [] in
      let empty = empty_start w missing in
      unmade_stand laws bytes any (world_after [] w new) (record {
        held = unmade_only bytes u (world_after [] w new).held empty all.held;
        leave = λ c may. unmade_only bytes u c empty (all.leave c may);
        keep = λ c may. unmade_only bytes u c empty (all.keep c may);
      })

  pub made_begun : {E : Type 0} (r : Result (Unit {0}) E) (old new : List Event) → old ≡ [] → Making left bytes r old new → OnOk r (IsMade bytes new)
  made_begun (Err e) old new begun does = tt
  made_begun {E} (Ok x) old new begun does = λ w honest missing. made_stand laws bytes any (world_after [] w new) (begun_step {E = E} (Ok x) old new begun does w honest missing).0

-- ---- in the middle of a call

-- where there is no file yet, a call found none
found_none : (h : Held) (part : ℕ) (e : Event) → IsTrue (is_honest_of h part e) → left h part e ≡ NoFile → e ≡ NotFound
found_none NoFile part NotFound honest is = refl
found_none NoFile part Made honest is = absurd cc
found_none NoFile part _ honest is = absurd (true≢false (sym honest))
found_none (Bytes bytes) part e honest is = absurd cc

pub still_empty : (w : World) (events : List Event) → IsTrue (is_honest_after w events) → w.start ≡ NoFile → held_after w events ≡ NoFile → IsEmpty (world_after [] w events)
still_empty w [] honest missing is = empty_start w missing
still_empty w (e ∷ earlier) honest missing is =
    let both = and_parts (is_honest_of (held_after w earlier) (part_after w earlier) e) (is_honest_after w earlier) honest in
    grind (arith, still_empty w earlier both.1 missing (left_missing (held_after w earlier) (part_after w earlier) e is), left_missing)

stays_making : (P : List ℕ → Type 0) (u v : views.World) → Stays u v → AllStand file_end P u → AllStand file_end P v
stays_making P u v same all = grind arith

module _ (laws : Laws) (bytes : List ℕ) (any : IsAnyFile bytes) where
  cut_making_at : (missed events : List Event) → IsTrue (are_failed missed) → IsMaking bytes (missed ++ events) → (w : World) → IsTrue (is_honest_after w events) → w.start ≡ NoFile
      → (now : Held) → held_after w events ≡ now → AllStand file_end (IsMadeOrNone bytes) (world_after [] w events)
  cut_making_at missed events are making w honest missing NoFile is =
      unmade_stand laws bytes any (world_after [] w events) (empty_unmade bytes (world_after [] w events) (still_empty w events honest missing is))
  cut_making_at missed events are making w honest missing (Bytes file) is =
      let off = cut_off missed events are [] w honest (there_is (held_after w events) file is) in
      stays_making (IsMadeOrNone bytes) (world_after [] (cut w (failures events)) (missed ++ events)) (world_after [] w events) off.stays (making (cut w (failures events)) off.honest missing)

  pub interrupted_making : (missed events : List Event) → IsTrue (are_failed missed) → IsMaking bytes (missed ++ events) → IsMaking bytes (interrupted missed ++ events)
  interrupted_making = interrupted_as (λ l. IsMaking bytes l) (λ later last failed making w honest missing. cut_making_at later last failed making w honest missing (held_after w last) refl)
