-- What a run keeps for a failure of the power: of a file that had a database, or of one that had none.
use Rattle.rrd_disk.proofs.Names.{◌≡◌, ◌∙◌, ◌⊎◌, ℕ, zero, suc, Bool, IsOk, IsTrue, OnErr, List, [], ◌∷◌, ◌++◌, Option, Some, None, Result, Ok, Err, inl, inr, refl, sym, ap, subst, arith, false≢true, IsEmpty, All, Stays, Syncs, Ordered, FileSpan, IsFile, Bytes, Held, IsAnyFile, NoFile, Stored, TaskFault, held_of, world_in, contents_after, is_honest_by, IsSound, represented, Event, are_failed, interrupted, world_after, World, bytes_of, failures, held_after, is_honest_after, DoesSafely, PutsSafely, Reopens, StoresRun, SurvivesAs, SurvivesRun, IsSoundAs, Laws, LoadsAs, MayDiffer, StaysAs, is_sound_by, Survives, found_after, HadNone, IsBare, IsGone, IsLacking, IsMadeOf, IsSafeAs, IsUnmadeOr, IsUnwritable, Lacks, MakesSafely, MayLoad, StaysUnmarked, StoresMaking, SurvivesMade, SurvivesMaking, SurvivesMakingFailure, is_safe_by, plain_represents, Found, Unopened, Unwritable, Open, Kept, common_steps}
use Rattle.rrd_disk.proofs.Asked.{world_in_held}
use Rattle.rrd_disk.proofs.Failures.{failure_survived, found_survives, cut_off, stays_surviving}
use Rattle.rrd_disk.proofs.Kills.{cut, interrupted_as, never_there, there_is}
use Rattle.rrd_disk.proofs.Making.{bare_stays, empty_bare, stays_empty, still_empty, zero_bare}
use Rattle.rrd_disk.proofs.Resting.{held_is}
use Rattle.rrd_disk.proofs.Safe.{MayDifferBy, as_left, reopened, safe_done, safe_failed, survives, surviving, unopened_as}
use Rattle.rrd_disk.proofs.Storing.{any_database, found_represents, sound_as, sound_unmarked, unmarked_is}
use Rattle.rrd_change.specs.Views as views
use Rattle.rrd_store.specs.Runs as runs
use Rattle.rrd_store.specs.Storages as storages
use Rattle.rrd_disk.specs.declared.storage.Found.TheVariants as found

-- ---- a file that has no database

pub bare_sound : (h : Held) → IsBare (bytes_of h) → IsSound h
bare_sound NoFile bare = tt
bare_sound (Bytes bytes) bare = sound_unmarked (Bytes bytes) bytes refl bare.0

missing_before : (old new : Held) → represented new ≡ represented old → new ≡ NoFile → old ≡ NoFile
missing_before NoFile new same none = refl
missing_before (Bytes old) new same none = absurd (let other : NoFile ≡ represented (Bytes old) = sym (ap represented none) ∙ same in cc)

module _ (laws : Laws) where
  no_standing : (f : Found) (h : Held) → StaysAs f h → IsBare (bytes_of h) → ⊥
  no_standing f h is bare =
      let same = unmarked_is laws is.now (bytes_of h) is.file (found_represents f is.now (bytes_of h) is.state) bare.0 in
      bare.1 is.file.0 (subst (λ (b : List ℕ). IsFile b is.file.0) (sym same) is.file.1)

  -- ---- a load

  module _ (P : List ℕ → Type 0) (was : Found) (can : MayLoad was) (h : Held) (w : views.World) (here : w.held ≡ bytes_of h) (l : IsLacking P was h w) where
    lack : (f : Found) → f ≡ was → IsBare w.held × IsSoundAs f h × (h ≡ NoFile → IsEmpty w)
    lack Unopened is = grind (arith, common_steps, bare_sound)
    lack found.Missing is =
        let empty : IsEmpty w = subst (λ (f : Found). Lacks f w) (sym is) l.lacks in
        (empty_bare laws w.held empty.held, subst (λ (f : Found). IsGone f h w) (sym is) l.gone, λ none. empty)
    lack (Unwritable error) is = absurd (subst MayLoad (sym is) can)
    lack (Open base) is = absurd (subst (λ (f : Found). Lacks f w) (sym is) l.lacks)
    lack (Kept base log) is = absurd (subst (λ (f : Found). Lacks f w) (sym is) l.lacks)

  lacks_as : (left : Found) (h : Held) (v : views.World) → v.held ≡ bytes_of h → IsSoundAs left h → IsBare v.held → (h ≡ NoFile → IsEmpty v) → Lacks left v × IsGone left h v
  lacks_as Unopened h v here sound bare gone = (bare, gone)
  lacks_as found.Missing h v here sound bare gone = (gone sound, sound)
  lacks_as (Unwritable error) h v here sound bare gone = (tt, tt)
  lacks_as (Open base) h v here sound bare gone = absurd (no_standing (Open base) h sound (subst IsBare here bare))
  lacks_as (Kept base log) h v here sound bare gone = absurd (no_standing (Kept base log) h sound (subst IsBare here bare))

-- what a load leaves of the file
abbrev pub LoadsSound : Found → Found → List Event → List Event → Type 0
LoadsSound was left old new =
    (w : World) → IsTrue (is_honest_after w new) → IsSoundAs was (held_after w old) → IsSoundAs left (held_after w new) × (represented (held_after w new) ≡ represented (held_after w old))

pub loads_sound : (was left : Found) (old new : List Event) (result : Result (Option Stored) TaskFault) → LoadsAs was old new left result → LoadsSound was left old new
loads_sound was left old new result loads w honest sound = let one = loads w honest sound in (one.sound, one.same)

pub loads_unopened : (was left : Found) (old new : List Event) (result : Result (Option Stored) TaskFault) → LoadsAs was old new left result → LoadsSound was Unopened old new
loads_unopened was left old new result loads w honest sound = let one = loads w honest sound in (sound_as left (held_after w new) one.sound, one.same)

pub reopens_unopened : (syncs : Syncs) (was left : Found) (old new : List Event) → DoesSafely (Reopens was left) syncs old new → DoesSafely (Reopens was Unopened) syncs old new
reopens_unopened syncs was left old new does = λ ordered d w honest end other now any is. as_left left end other now (world_after d w new) (does ordered d w honest end other now any is)

stays_made : (P : List ℕ → Type 0) (u v : views.World) → Stays u v → All (IsMadeOf P) u → All (IsMadeOf P) v
stays_made P u v same all =
    record { held = subst (IsMadeOf P) (sym same.held) all.held; leave = λ c may. all.leave c (same.leave c may); keep = λ c may. all.keep c (same.keep c may) }

module _ (laws : Laws) (was left : Found) (old new : List Event) (can : MayLoad was) (stays : StaysUnmarked old new) (loads : LoadsSound was left old new) where
  lacking_loaded : (P : List ℕ → Type 0) (d : List ℕ) (w : World) → IsTrue (is_honest_after w new) → IsLacking P was (held_after w old) (world_after d w old) → IsLacking P left (held_after w new) (world_after d w new)
  lacking_loaded P d w honest l =
      let u = world_after d w old in
      let v = world_after d w new in
      let first = lack laws P was can (held_after w old) u (held_is d w old) l was refl in
      let same = bare_stays d w old new stays honest first.0 in
      let then = loads w honest first.1 in
      let gone : held_after w new ≡ NoFile → IsEmpty v = λ none. stays_empty u v same (first.2 (missing_before (held_after w old) (held_after w new) then.1 none)) in
      let both = lacks_as laws left (held_after w new) v (held_is d w new) then.0 (subst IsBare (sym same.held) first.0) gone in
      record { none = l.none; lacks = both.0; gone = both.1; all = stays_made P u v same l.all }

  module _ (syncs one : Syncs) (same : one ≡ syncs) (does : DoesSafely (Reopens was left) syncs old new) where
    loaded_as : (d : List ℕ) (P : List ℕ → Type 0) (w : World) → IsTrue (is_honest_after w new) → syncs ≡ Ordered → IsSafeAs d P was w old → IsSafeAs d P left w new
    loaded_as [] P w honest ordered safe = absurd safe
    loaded_as (zero ∷ d) P w honest ordered safe = reopened P was left (world_after d w old) (world_after d w new) (does ordered d w honest) safe
    loaded_as (suc more ∷ d) P w honest ordered (inl safe) = inl (reopened P was left (world_after d w old) (world_after d w new) (does ordered d w honest) safe)
    loaded_as (suc more ∷ d) P w honest ordered (inr l) = inr (lacking_loaded P d w honest l)

    pub safe_loaded : (s : Option Held) (d : List ℕ) (Q : List ℕ → Bool) → is_honest_by s new → is_safe_by s d Q syncs was old → is_safe_by s d Q one left new
    safe_loaded None d Q honest safe = tt
    safe_loaded (Some code) d Q honest safe = (same ∙ safe.0, loaded_as d (λ b. IsTrue (Q b)) (world_in code) honest safe.0 safe.1)

-- ---- a change

module _ (laws : Laws) (P : List ℕ → Type 0) (bytes : List ℕ) (any : IsAnyFile bytes) (holds : P bytes) (none : P []) (u : views.World) (all : All (IsMadeOf P) u) where
  made_of : (c : List ℕ) → IsUnmadeOr bytes u c → IsMadeOf P c
  made_of c (inl (inl zeroed)) = inr (none, zero_bare laws c zeroed)
  made_of c (inl (inr is)) = inl (bytes, any, holds, inl is)
  made_of c (inr (inl is)) = subst (IsMadeOf P) (sym is) all.held
  made_of c (inr (inr (inl may))) = all.leave c may
  made_of c (inr (inr (inr may))) = all.keep c may

  all_made_of : (v : views.World) → All (IsUnmadeOr bytes u) v → All (IsMadeOf P) v
  all_made_of v made = record { held = made_of v.held made.held; leave = λ c may. made_of c (made.leave c may); keep = λ c may. made_of c (made.keep c may) }

failed_lacking : (P : List ℕ → Type 0) (left : Found) (h : Held) (v : views.World) → IsUnwritable left → P [] → All (IsMadeOf P) v → IsLacking P left h v
failed_lacking P (Unwritable error) h v is none all = record { none = none; lacks = tt; gone = tt; all = all }
failed_lacking P _ h v is none all = absurd is

module _ (laws : Laws) (syncs one : Syncs) (same : one ≡ syncs) (was left : Found) (changed : List FileSpan) (bytes : List ℕ) (any : IsAnyFile bytes) (old new : List Event) where
  module _ (w : World) (honest : IsTrue (is_honest_after w new)) (may : MayDiffer changed (represented (held_after w old)) bytes) (ordered : syncs ≡ Ordered) where
    made_done : {E : Type 0} (r : Result (Unit {0}) E) (P Q : List ℕ → Type 0) (d : List ℕ) → IsOk r → MakesSafely syncs was left bytes old new r → Q bytes → IsLacking P was (held_after w old) (world_after d w old) → SurvivesAs Q left (world_after d w new)
    made_done (Ok x) P Q d ok makes holds l = grind (arith, common_steps)
    made_done (Err e) P Q d ok makes holds l = absurd (false≢true ok)

    done_as : {E : Type 0} (r : Result (Unit {0}) E) (P Q : List ℕ → Type 0) (d : List ℕ) → IsOk r → PutsSafely syncs was left changed bytes old new r → MakesSafely syncs was left bytes old new r → Q bytes
        → IsSafeAs d P was w old → IsSafeAs d Q left w new
    done_as r P Q [] ok puts makes holds safe = absurd safe
    done_as r P Q (zero ∷ d) ok puts makes holds safe = safe_done d w syncs was left changed bytes any old new honest may ordered r P Q ok puts holds safe
    done_as r P Q (suc more ∷ d) ok puts makes holds (inl safe) = inl (safe_done d w syncs was left changed bytes any old new honest may ordered r P Q ok puts holds safe)
    done_as r P Q (suc more ∷ d) ok puts makes holds (inr l) = inl (made_done r P Q d ok makes holds l)

    kept_as : {E : Type 0} (e : E) (P : List ℕ → Type 0) (d : List ℕ) → IsUnwritable left → PutsSafely syncs was left changed bytes old new (Err e) → MakesSafely syncs was left bytes old new (Err e) → P bytes
        → IsSafeAs d P was w old → IsSafeAs d P left w new
    kept_as e P [] failed puts makes holds safe = absurd safe
    kept_as e P (zero ∷ d) failed puts makes holds safe = safe_failed d w syncs was left changed bytes any old new honest may ordered e P failed puts holds safe
    kept_as e P (suc more ∷ d) failed puts makes holds (inl safe) = inl (safe_failed d w syncs was left changed bytes any old new honest may ordered e P failed puts holds safe)
    kept_as e P (suc more ∷ d) failed puts makes holds (inr l) =
        inr (failed_lacking P left (held_after w new) (world_after d w new) failed l.none
        (all_made_of laws P bytes any holds l.none (world_after d w old) l.all (world_after d w new) (makes ordered d w honest l.lacks)))

  pub safe_put : {E : Type 0} (s : Option Held) (d : List ℕ) (r : Result (Unit {0}) E) (Q : List ℕ → Bool) → OnErr r (IsUnwritable left) → PutsSafely syncs was left changed bytes old new r
      → MakesSafely syncs was left bytes old new r → is_honest_by s new → MayDifferBy s changed old bytes → IsTrue (Q bytes) → is_safe_by s d Q syncs was old → is_safe_by s d Q one left new
  safe_put None d r Q closed puts makes honest may holds safe = tt
  safe_put {E} (Some code) d (Ok x) Q closed puts makes honest may holds safe = grind (arith, common_steps, done_as)
  safe_put (Some code) d (Err e) Q closed puts makes honest may holds safe =
      (same ∙ safe.0, kept_as (world_in code) honest may safe.0 e (λ b. IsTrue (Q b)) d closed puts makes holds safe.1)

  pub safe_stored : {E : Type 0} (s : Option Held) (d : List ℕ) (r : Result (Unit {0}) E) (Q R : List ℕ → Bool) → IsOk r → PutsSafely syncs was left changed bytes old new r → MakesSafely syncs was left bytes old new r
      → is_honest_by s new → MayDifferBy s changed old bytes → IsTrue (R bytes) → is_safe_by s d Q syncs was old → is_safe_by s d R one left new
  safe_stored None d r Q R ok puts makes honest may holds safe = tt
  safe_stored (Some code) d r Q R ok puts makes honest may holds safe = grind (arith, common_steps, done_as)

-- ---- a run

-- before the first call
had_lacking : Laws → (P : List ℕ → Type 0) (d : List ℕ) (w : World) → HadNone P d w.start → IsLacking P Unopened w.start (world_after d w [])
had_lacking laws P d w had =
    let bare : IsMadeOf P (bytes_of w.start) = inr (had.none, had.bare) in
    let either : (c : List ℕ) → (c ≡ d) ⊎ (c ≡ bytes_of w.start) → IsMadeOf P c = λ c may. elim may as (λ _. IsMadeOf P c) [
      | inl is ↦ subst (IsMadeOf P) (sym is) had.disk
      | inr is ↦ subst (IsMadeOf P) (sym is) bare
    ] in
    let gone : w.start ≡ NoFile → (c : List ℕ) → (c ≡ d) ⊎ (c ≡ bytes_of w.start) → c ≡ [] = grind arith in
    record { none = had.none; lacks = had.bare; gone = λ missing. record { held = ap bytes_of missing; leave = gone missing; keep = gone missing }; all = record { held = bare; leave = either; keep = either } }

lacking_made : Laws → (P : List ℕ → Type 0) (f : Found) (h : Held) (v : views.World) → SurvivesAs P f v ⊎ IsLacking P f h v → SurvivesMade P v
lacking_made laws P f h v (inl s) = inl (surviving laws P v (survives P f v s))
lacking_made laws P f h v (inr l) = inr l.all

module _ (f0 f1 : Found) (y0 y1 : Syncs) (before after : List Event) (run : runs.Run) (none : before ≡ []) (closed : f0 ≡ Unopened) (ordered : y0 ≡ Ordered) where
  first_as : (d : List ℕ) (P : List ℕ → Type 0) (w : World) → IsSafeAs d P Unopened w [] → IsSafeAs d P f0 w before
  first_as d P w safe = subst (λ (f : Found). IsSafeAs d P f w before) (sym closed) (subst (λ (events : List Event). IsSafeAs d P Unopened w events) (sym none) safe)

  first_sound : (w : World) → IsSound w.start → IsSoundAs f0 (held_after w before)
  first_sound w is = subst (λ (f : Found). IsSoundAs f (held_after w before)) (sym closed) (subst (λ (events : List Event). IsSound (held_after w events)) (sym none) is)

  ran : (w : World) (Q : List ℕ → Bool) → ((b : List ℕ) → runs.Did (represented w.start) run (Bytes b) → IsTrue (Q b)) → (b : List ℕ) → runs.Did (represented (held_after w before)) run (Bytes b) → IsTrue (Q b)
  ran w Q holds b did = holds b (subst (λ (events : List Event). runs.Did (represented (held_after w events)) run (Bytes b)) none did)

  -- what survives a run by a storage
  module _ (safe : (s : Option Held) (d : List ℕ) (Q : List ℕ → Bool) → is_honest_by s after → is_sound_by s f0 before
      → ((b : List ℕ) → runs.DidIn (contents_after s before) run (Some (Bytes b)) → IsTrue (Q b)) → is_safe_by s d Q y0 f0 before → is_safe_by s d Q y1 f1 after) where
    abbrev Keeps : List ℕ → (List ℕ → Bool) → World → Type 0
    Keeps d Q w = IsTrue (is_honest_after w after) → IsSound w.start → ((b : List ℕ) → runs.Did (represented w.start) run (Bytes b) → IsTrue (Q b))
        → IsSafeAs d (λ b. IsTrue (Q b)) Unopened w [] → IsSafeAs d (λ b. IsTrue (Q b)) f1 w after

    run_keeps : (d : List ℕ) (Q : List ℕ → Bool) (w : World) → Keeps d Q w
    run_keeps d Q w = subst (Keeps d Q) (world_in_held w) (λ honest is holds first.
        let v = world_in (held_of w) in
        (safe (Some (held_of w)) d Q honest (first_sound v is) (ran v Q holds) (ordered, first_as d (λ b. IsTrue (Q b)) v first)).1)

    pub run_survives : Laws → SurvivesRun after run
    run_survives laws = λ d w honest is Q holds s.
        let P : List ℕ → Type 0 = λ b. IsTrue (Q b) in
        surviving laws P (world_after d w after) (survives P f1 (world_after d w after) (run_keeps (0 ∷ d) Q w honest is holds (unopened_as P Unopened d w [] refl refl s)))

    pub run_makes : Laws → SurvivesMaking after run
    run_makes laws = λ d w honest Q holds had.
        let P : List ℕ → Type 0 = λ b. IsTrue (Q b) in
        lacking_made laws P f1 (held_after w after) (world_after d w after) (run_keeps (1 ∷ d) Q w honest (bare_sound w.start had.bare) holds (inr (had_lacking laws P d w had)))

  -- what is stored after one that ended well
  module _ (safe : (s : Option Held) (d : List ℕ) (Q R : List ℕ → Bool) → is_honest_by s after → is_sound_by s f0 before
      → ((b : List ℕ) → runs.DidIn (contents_after s before) run (Some (Bytes b)) → IsTrue (R b))
      → (storages.Stays (contents_after s before) (contents_after s after) → is_safe_by s d R y0 f0 before) → is_safe_by s d Q y0 f0 before → is_safe_by s d R y1 f1 after) where
    abbrev Stores : List ℕ → (List ℕ → Bool) → (List ℕ → Bool) → World → Type 0
    Stores d Q R w = IsTrue (is_honest_after w after) → IsSound w.start → ((b : List ℕ) → runs.Did (represented w.start) run (Bytes b) → IsTrue (R b))
        → (represented (held_after w after) ≡ represented w.start → IsSafeAs d (λ b. IsTrue (R b)) Unopened w [])
        → IsSafeAs d (λ b. IsTrue (Q b)) Unopened w [] → IsSafeAs d (λ b. IsTrue (R b)) f1 w after

    run_keeps_stored : (d : List ℕ) (Q R : List ℕ → Bool) (w : World) → Stores d Q R w
    run_keeps_stored d Q R w = subst (Stores d Q R) (world_in_held w) (λ honest is holds stays first.
        let v = world_in (held_of w) in
        let still : represented (held_after v after) ≡ represented (held_after v before) → is_safe_by (Some (held_of w)) d R y0 f0 before = λ kept.
        (ordered, first_as d (λ b. IsTrue (R b)) v (stays (kept ∙ ap (λ (events : List Event). represented (held_after v events)) none))) in
        (safe (Some (held_of w)) d Q R honest (first_sound v is) (ran v R holds) still (ordered, first_as d (λ b. IsTrue (Q b)) v first)).1)

    pub run_stored : Laws → StoresRun after run
    run_stored laws = λ d w honest is Q R holds stays s.
        let P : List ℕ → Type 0 = λ b. IsTrue (R b) in
        surviving laws P (world_after d w after) (survives P f1 (world_after d w after)
        (run_keeps_stored (0 ∷ d) Q R w honest is holds (λ kept. unopened_as P Unopened d w [] refl refl (stays kept)) (unopened_as (λ b. IsTrue (Q b)) Unopened d w [] refl refl s)))

    pub run_makes_stored : Laws → StoresMaking after run
    run_makes_stored laws = λ d w honest Q R holds stays had.
        let P : List ℕ → Type 0 = λ b. IsTrue (R b) in
        lacking_made laws P f1 (held_after w after) (world_after d w after)
        (run_keeps_stored (1 ∷ d) Q R w honest (bare_sound w.start had.bare) holds (λ kept. inr (had_lacking laws P d w (stays kept))) (inr (had_lacking laws (λ b. IsTrue (Q b)) d w had)))

-- ---- the power fails in the middle

stays_survived : (P : List ℕ → Type 0) (u v : views.World) → Stays u v → SurvivesMade P u → SurvivesMade P v
stays_survived P u v same (inl power) = inl (stays_surviving u v same P power)
stays_survived P u v same (inr all) = inr (stays_made P u v same all)

module _ (laws : Laws) (run : runs.Run) where
  -- where no file came to be, nothing was written
  still_none : (P : List ℕ → Type 0) (d : List ℕ) (w : World) (events : List Event) → IsTrue (is_honest_after w events) → HadNone P d w.start → held_after w events ≡ NoFile → SurvivesMade P (world_after d w events)
  still_none P d w events honest had is =
      let missing = never_there w events is in
      let empty : IsEmpty (world_after d w events) = subst (λ (x : List ℕ). IsEmpty (world_after x w events)) (sym (had.missing missing)) (still_empty w events honest missing is) in
      let bare : (c : List ℕ) → c ≡ [] → IsMadeOf P c = λ c none. inr (had.none, empty_bare laws c none) in
      inr (record { held = bare (world_after d w events).held empty.held; leave = λ c may. bare c (empty.leave c may); keep = λ c may. bare c (empty.keep c may) })

  cut_making : (missed events : List Event) → IsTrue (are_failed missed) → SurvivesMaking (missed ++ events) run → (d : List ℕ) (w : World) → IsTrue (is_honest_after w events) → (Q : List ℕ → Bool)
      → ((b : List ℕ) → runs.Did (represented w.start) run (Bytes b) → IsTrue (Q b)) → HadNone (λ b. IsTrue (Q b)) d w.start
      → (now : Held) → held_after w events ≡ now → SurvivesMade (λ b. IsTrue (Q b)) (world_after d w events)
  cut_making missed events are making d w honest Q holds had NoFile is = still_none (λ b. IsTrue (Q b)) d w events honest had is
  cut_making missed events are making d w honest Q holds had (Bytes file) is =
      let off = cut_off missed events are d w honest (there_is (held_after w events) file is) in
      stays_survived (λ b. IsTrue (Q b)) (world_after d (cut w (failures events)) (missed ++ events)) (world_after d w events) off.stays (making d (cut w (failures events)) off.honest Q holds had)

  pub interrupted_makes : (missed events : List Event) → IsTrue (are_failed missed) → SurvivesMaking (missed ++ events) run → SurvivesMaking (interrupted missed ++ events) run
  interrupted_makes = interrupted_as (λ l. SurvivesMaking l run) (λ later last failed making d w honest Q holds had. cut_making later last failed making d w honest Q holds had (held_after w last) refl)

-- ---- after the failure

module _ (laws : Laws) (Q : List ℕ → Bool) (c : List ℕ) where
  found_made : IsMadeOf (λ b. IsTrue (Q b)) c → Survives (λ b. IsTrue (Q b)) (world_after c (found_after c) []) ⊎ HadNone (λ b. IsTrue (Q b)) c (Bytes c)
  found_made (inl (now, any, holds, plain)) = inl (found_survives laws (λ b. IsTrue (Q b)) now c any holds (plain_represents now c (any_database laws now any) plain))
  found_made (inr none) = inr (record { none = none.0; bare = none.1; disk = inr none; missing = λ (is : Bytes c ≡ NoFile). absurd cc })

module _ (laws : Laws) (Q : List ℕ → Bool) (d : List ℕ) (w : World) (events : List Event) where
  pub making_survived : SurvivesMakingFailure Q d w events
  making_survived (inl power) c may tells = inl (failure_survived laws Q d w events power.survives c may tells)
  making_survived (inr all) c may tells = found_made laws Q c (all.leave c may)
