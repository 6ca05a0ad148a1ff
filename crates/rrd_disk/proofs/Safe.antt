-- What a run leaves for a failure of the power.
use Rattle.rrd_disk.proofs.Names.{left_represents, kept_left, ◌≡◌, ◌∙◌, ℕ, ◌<◌, false, IsErr, IsOk, IsTrue, OnOk, List, [], ◌∷◌, ◌++◌, length, take, Option, Some, None, Result, Ok, Err, inl, inr, refl, sym, ap, subst, arith, false≢true, database_of, IsLeft, IsStopped, LogEnd, Whole, mark_of, AgreesOutside, IsAtRest, Represents, Does, Steps, seen, Syncs, Ordered, Base, Span, FileSpan, Bytes, DiffersWithin, Held, IsAnyFile, Missing, view_of, world_in, Falls, Rests, RestsFor, contents_after, represented, Event, TellsMark, IsStandingIn, IsNone, world_after, are_failed, interrupted, World, bytes_after, bytes_of, failures, held_after, is_honest_after, BeganAs, DoesSafely, DoesSafelyUnmarked, IsClosedAs, IsLeftAs, Opens, PutsSafely, Reopens, SurvivesAs, SurvivesRun, IsUnwritable, AreOf, Breaks, Changes, IsAsLoaded, IsFoundAs, IsOpen, Laws, MayDiffer, Becomes, BecomesOrNot, DoesOr, Survives, SurvivesPower, Read, Write, Standing, Found, Unopened, Unwritable, Open, Kept, common_steps}
use Rattle.rrd_disk.proofs.Asked.{bytes_there}
use Rattle.rrd_disk.proofs.Failures.{cut_power, left_survives, long_under, stays_left, there_start}
use Rattle.rrd_disk.proofs.Kills.{cut, interrupted_as}
use Rattle.rrd_disk.proofs.Powering.{held_now, repaired_power, rest_by, rests_stay, stored, unrepaired_power}
use Rattle.rrd_disk.proofs.Repairing.{FailsToRepair, Repairs}
use Rattle.rrd_disk.proofs.Resting.{held_is, rests_refl}
use Rattle.rrd_disk.proofs.Storing.{agrees_in, any_database, database_unmarked, represented_standing, told_unmarked, whole_may_differ}
use Rattle.rrd_change.specs.Views as views
use Rattle.rrd_file.specs.Spans as file
use Rattle.rrd_store.specs.Runs as runs
use Rattle.rrd_disk.specs.declared.storage.Found.TheVariants as found

-- ---- a file that stays open

-- whatever was found, the file stands for the database
pub as_left : (found : Found) (end : LogEnd) (other now : List ℕ) (w : views.World) → IsLeftAs found end other now w → IsLeft end other now w
as_left found.Missing end other now w left = absurd left
as_left (Open base) end other now w left = inl left.1
as_left (Kept base log) end other now w left = kept_left end other now log w left.1
as_left _ end other now w left = left

pub reopens : (was left : Found) (w v : views.World) → Opens left w v → Reopens was left w v
reopens was left w v opens end other now any is = opens end other now any (as_left was end other now w is)

module _ (P : List ℕ → Type 0) where
  pub survives : (found : Found) (w : views.World) → SurvivesAs P found w → Survives P w
  survives found w s = grind (arith, common_steps, as_left)

  pub reopened : (was left : Found) (w v : views.World) → Reopens was left w v → SurvivesAs P was w → SurvivesAs P left v
  reopened was left w v opens s = grind (arith, common_steps)

-- ---- calls that rest

pub write_rests : (old new : List Event) → RestsFor Write old new → Rests old new
write_rests old new rests = record { falls = rests.falls; held = rests.held; leave = rests.leave; keep = rests.keep }

module _ (old new : List Event) (rests : Rests old new) (d : List ℕ) (w : World) where
  pub rests_opens : Opens Unopened (world_after d w old) (world_after d w new)
  rests_opens end other now any left = stays_left (world_after d w old) (world_after d w new) (rests_stay Read old new rests d w) end other now left

-- there is a file, if it stands for a database
none_absurd : Laws → (events : List Event) → IsNone events → (d : List ℕ) (w : World) → IsTrue (is_honest_after w events) → (end : LogEnd) (other now : List ℕ) → IsAnyFile now
    → IsLeft end other now (world_after d w events) → ⊥
none_absurd laws events none d w honest end other now any left = grind (arith, long_under, any_database, held_is)

module _ (syncs : Syncs) (old new : List Event) (rests : Rests old new) where
  -- the run cannot write the file, or could not read it
  pub rests_closed : (left : Found) → IsClosedAs left → DoesSafely (Opens left) syncs old new
  rests_closed Unopened is = λ ordered d w honest. rests_opens old new rests d w
  rests_closed (Unwritable error) is = λ ordered d w honest. rests_opens old new rests d w
  rests_closed _ is = absurd is

module _ (laws : Laws) (syncs : Syncs) (old new : List Event) (rests : Rests old new) where
  -- there is no file
  pub rests_missing : (left : Found) → IsNone new → DoesSafely (Opens left) syncs old new
  rests_missing left none = λ ordered d w honest end other now any there.
      absurd (none_absurd laws new none d w honest end other now any (rests_opens old new rests d w end other now any there))

  unmarked_rest : (d : List ℕ) (w : World) → mark_of (bytes_after w old) ≡ None → (end : LogEnd) (other now : List ℕ) → IsAnyFile now → IsLeft end other now (world_after d w old)
      → IsAtRest now (world_after d w new)
  unmarked_rest d w unmarked end other now any left =
      let v = world_after d w new in
      let there = rests_opens old new rests d w end other now any left in
      let none : mark_of v.held ≡ None = ap mark_of (held_is d w new ∙ ap bytes_of (rests.held w)) ∙ unmarked in
      rest_by laws end other now v any none there (held_now laws end other now v any none there)

  pub unmarked_opens : (left : Found) → IsAsLoaded left new → DoesSafelyUnmarked (Opens left) syncs old new
  unmarked_opens Unopened is = λ ordered d w honest unmarked. rests_opens old new rests d w
  unmarked_opens found.Missing is = absurd is
  unmarked_opens (Unwritable error) is = absurd is
  unmarked_opens (Open base) tells = λ ordered d w honest unmarked end other now any left.
      let rest = unmarked_rest d w unmarked end other now any left in
      let is : bytes_after w new ≡ now = sym (held_is d w new) ∙ rest.world.held in
      let facts = tells w honest in (
        record { is = any_database laws now any; length = facts.0 ∙ ap (λ (b : List ℕ). length b) is; first = facts.1 ∙ ap (take 16) is },
        rest,
      )
  unmarked_opens (Kept base log) is = absurd is

pub tells_unmarked : (events : List Event) → TellsMark false events → (w : World) → IsTrue (is_honest_after w events) → mark_of (bytes_after w events) ≡ None
tells_unmarked events tells w honest = told_unmarked false (mark_of (bytes_after w events)) (tells w honest) refl

-- other calls before
pub rests_then : (left : Found) (syncs one : Syncs) → one ≡ syncs → (old mid new : List Event) → Rests old mid → DoesSafely (Opens left) one mid new → DoesSafely (Opens left) syncs old new
rests_then left syncs one same old mid new rests does = λ ordered d w honest end other now any there.
    does (same ∙ ordered) d w honest end other now any (rests_opens old mid rests d w end other now any there)

pub rests_then_unmarked : (left : Found) (syncs one : Syncs) → one ≡ syncs → (old mid new : List Event) → Rests old mid → Falls mid new → ((w : World) → IsTrue (is_honest_after w mid) → mark_of (bytes_after w mid) ≡ None)
    → DoesSafelyUnmarked (Opens left) one mid new → DoesSafely (Opens left) syncs old new
rests_then_unmarked left syncs one same old mid new rests falls unmarked does = λ ordered d w honest end other now any there.
    does (same ∙ ordered) d w honest (unmarked w (falls w honest)) end other now any (rests_opens old mid rests d w end other now any there)

-- ---- a repair

module _ (laws : Laws) (standing : Standing) (old fixed : List Event) (stands : IsStandingIn standing old) (falls : Falls old fixed) (syncs one : Syncs) (same : one ≡ syncs) where
  pub repaired_opens : Steps (Repairs standing.found) (seen one (view_of old)) (seen one (view_of fixed)) → (new : List Event) → Falls fixed new → (left : Found) (two : Syncs) → two ≡ syncs
      → DoesSafelyUnmarked (Opens left) two fixed new → DoesSafely (Opens left) syncs old new
  repaired_opens steps new after left two also loads = λ ordered d w honest end other now any there.
      let base : Base = record { length = length (database_of standing.found); first = take 16 (database_of standing.found) } in
      let rest = (repaired_power laws standing old old fixed (rests_refl old) stands base one refl refl falls steps (same ∙ ordered) d w (after w honest) end other now any there).1 in
      let unmarked : mark_of (bytes_after w fixed) ≡ None = ap mark_of (sym (held_is d w fixed) ∙ rest.world.held) ∙ database_unmarked now (any_database laws now any) in
      loads (also ∙ ordered) d w honest unmarked end other now any (inl rest)

  pub unrepaired_opens : Steps (FailsToRepair standing.found) (seen one (view_of old)) (seen one (view_of fixed)) → (left : Found) → IsClosedAs left → DoesSafely (Opens left) syncs old fixed
  unrepaired_opens steps Unopened is = λ ordered d w honest. unrepaired_power laws standing old old fixed (rests_refl old) stands one falls steps (same ∙ ordered) d w honest
  unrepaired_opens steps (Unwritable error) is = λ ordered d w honest. unrepaired_power laws standing old old fixed (rests_refl old) stands one falls steps (same ∙ ordered) d w honest
  unrepaired_opens steps _ is = absurd is

-- ---- a change

-- a database that was written to a file which is open then
pub became_as : (left : Found) (bytes : List ℕ) (v : views.World) → BeganAs bytes left → IsAtRest bytes v → IsLeftAs left Whole bytes bytes v
became_as (Open base) bytes v began rest = (began, rest)
became_as _ bytes v began rest = absurd began

found_left_as : (left : Found) (bytes : List ℕ) (v : views.World) → IsOpen left → IsFoundAs left bytes v → IsLeftAs left Whole bytes bytes v
found_left_as (Open base) bytes v opened is = is
found_left_as (Kept base log) bytes v opened is = is
found_left_as _ bytes v opened is = absurd opened

left_found_as : (was : Found) (end : LogEnd) (other now : List ℕ) (w : views.World) → IsOpen was → IsLeftAs was end other now w → IsFoundAs was now w
left_found_as (Open base) end other now w opened is = is
left_found_as (Kept base log) end other now w opened is = is
left_found_as _ end other now w opened is = absurd opened

-- a file that was not open
pub became_safely : {E : Type 0} (r : Result (Unit {0}) E) (left : Found) (changed : List FileSpan) (bytes : List ℕ) (syncs : Syncs) (old new : List Event) → OnOk r (BeganAs bytes left)
    → DoesOr (λ x. Becomes bytes) (BecomesOrNot bytes) r syncs old new → PutsSafely syncs Unopened left changed bytes old new r
became_safely (Ok x) left changed bytes syncs old new began does = λ ordered d w honest differs end other now any is. became_as left bytes (world_after d w new) began (does ordered d w honest end other now any is)
became_safely (Err e) left changed bytes syncs old new began does = λ ordered d w honest differs end other now any is. does ordered d w honest end other now any is

-- no call was made, and the change failed
pub unchanged_safely : {E : Type 0} (r : Result (Unit {0}) E) (was left : Found) (changed : List FileSpan) (bytes : List ℕ) (syncs : Syncs) (events : List Event) → IsErr r → PutsSafely syncs was left changed bytes events events r
unchanged_safely (Ok x) was left changed bytes syncs events failed = absurd (false≢true failed)
unchanged_safely (Err e) was left changed bytes syncs events failed = λ ordered d w honest differs end other now any is. inl (as_left was end other now (world_after d w events) is)

pub missing_safely : {E : Type 0} (r : Result (Unit {0}) E) (left : Found) (changed : List FileSpan) (bytes : List ℕ) (syncs : Syncs) (old new : List Event) → PutsSafely syncs found.Missing left changed bytes old new r
missing_safely r left changed bytes syncs old new = λ ordered d w honest differs end other now any is. absurd is

pub found_safely : {E : Type 0} (r : Result (Unit {0}) E) (was is left : Found) (changed : List FileSpan) (bytes : List ℕ) (syncs : Syncs) (old new : List Event) → was ≡ is
    → PutsSafely syncs is left changed bytes old new r → PutsSafely syncs was left changed bytes old new r
found_safely r was is left changed bytes syncs old new same puts = subst (λ (f : Found). PutsSafely syncs f left changed bytes old new r) (sym same) puts

-- an open file was changed
module _ (laws : Laws) (was left : Found) (changed : List FileSpan) (spans : List Span) (bytes : List ℕ) (are : AreOf (length bytes) changed spans) (syncs : Syncs) (old new : List Event) (opened : IsOpen was) where
  agrees_now : (d : List ℕ) (w : World) → MayDiffer changed (represented (held_after w old)) bytes → (end : LogEnd) (other now : List ℕ) → IsAnyFile now → IsLeftAs was end other now (world_after d w old)
      → AgreesOutside spans now bytes
  agrees_now d w differs end other now any is =
      let left_so = as_left was end other now (world_after d w old) is in
      let stands = left_represents end other now (world_after d w old) left_so in
      let some = long_under now (world_after d w old).held stands (any_database laws now any) in
      let same = held_is d w old in
      let there = bytes_there (held_after w old) (there_start (held_after w old) (subst (λ (b : List ℕ). 0 < length b) same some)) in
      let now_is = represented_standing laws (held_after w old) now any there (subst (Represents now) same stands) in
      agrees_in changed spans now bytes are (differs now now_is any)

  pub changed_safely : {E : Type 0} (r : Result (Unit {0}) E) → OnOk r (IsOpen left)
      → Does (λ x. Changes was left spans bytes) (Breaks was spans bytes) r (seen syncs (view_of old)) (seen syncs (view_of new)) → PutsSafely syncs was left changed bytes old new r
  changed_safely {E} (Ok x) opens does = λ ordered d w honest differs end other now any is.
      let did = stored {A = Unit {0}} {E = E} (λ y. Changes was left spans bytes) (Breaks was spans bytes) (Ok x) syncs old new does ordered d w honest in
      found_left_as left bytes (world_after d w new) opens
      (did now any (agrees_now d w differs end other now any is) (left_found_as was end other now (world_after d w old) opened is))
  changed_safely {E} (Err e) opens does = λ ordered d w honest differs end other now any is.
      let did = stored {A = Unit {0}} {E = E} (λ y. Changes was left spans bytes) (Breaks was spans bytes) (Err e) syncs old new does ordered d w honest in
      inr (did now any (agrees_now d w differs end other now any is) (left_found_as was end other now (world_after d w old) opened is))

-- the file was closed then
pub closed_safely : {E : Type 0} (r : Result (Unit {0}) E) (was left : Found) (changed : List FileSpan) (bytes : List ℕ) (syncs : Syncs) (old new : List Event) → PutsSafely syncs was left changed bytes old new r
    → PutsSafely syncs was Unopened changed bytes old new r
closed_safely (Ok x) was left changed bytes syncs old new puts = λ ordered d w honest differs end other now any is. grind (arith, as_left left Whole bytes bytes (world_after d w new) (puts ordered d w honest differs end other now any is))
closed_safely (Err e) was left changed bytes syncs old new puts = λ ordered d w honest differs end other now any is. puts ordered d w honest differs end other now any is

-- the state does not matter after a failure
pub failed_safely : {E : Type 0} (r : Result (Unit {0}) E) (was left last : Found) (changed : List FileSpan) (bytes : List ℕ) (syncs : Syncs) (old new : List Event) → IsErr r → PutsSafely syncs was left changed bytes old new r
    → PutsSafely syncs was last changed bytes old new r
failed_safely (Ok x) was left last changed bytes syncs old new failed puts = absurd (false≢true failed)
failed_safely (Err e) was left last changed bytes syncs old new failed puts = puts

-- ---- a change, of which more is known

-- the run writes the file no more
failed_as : (P : List ℕ → Type 0) (left : Found) (v : views.World) → IsUnwritable left → Survives P v → SurvivesAs P left v
failed_as P (Unwritable error) v is s = record { now = s.now; other = s.other; is = s.is; was = s.was; holds = s.holds; held = s.held; end = s.end; left = s.left }
failed_as P _ v is s = absurd is

stopped_safe : (P : List ℕ → Type 0) (last : LogEnd) (now bytes : List ℕ) (v : views.World) → IsAnyFile now → IsAnyFile bytes → P now → P bytes → IsStopped last now bytes v → Survives P v
stopped_safe P last now bytes v is any held holds (inl left) = record { now = now; other = bytes; is = is; was = any; holds = held; held = holds; end = last; left = left }
stopped_safe P last now bytes v is any held holds (inr left) = record { now = bytes; other = now; is = any; was = is; holds = holds; held = held; end = last; left = left }

module _ (d : List ℕ) (w : World) (syncs : Syncs) (was left : Found) (changed : List FileSpan) (bytes : List ℕ) (any : IsAnyFile bytes) (old new : List Event) (honest : IsTrue (is_honest_after w new)) (differs : MayDiffer changed (represented (held_after w old)) bytes)
    (ordered : syncs ≡ Ordered) where
  pub safe_failed : {E : Type 0} (e : E) (P : List ℕ → Type 0) → IsUnwritable left → PutsSafely syncs was left changed bytes old new (Err e) → P bytes → SurvivesAs P was (world_after d w old) → SurvivesAs P left (world_after d w new)
  safe_failed e P failed puts holds s =
      let v = world_after d w new in
      failed_as P left v failed (elim (puts ordered d w honest differs s.end s.other s.now s.is s.left) as (λ _. Survives P v) [
        | inl same ↦ record { now = s.now; other = s.other; is = s.is; was = s.was; holds = s.holds; held = s.held; end = s.end; left = same }
        | inr (last, stopped) ↦ stopped_safe P last s.now bytes v s.is any s.holds holds stopped
      ])

  pub safe_done : {E : Type 0} (r : Result (Unit {0}) E) (P Q : List ℕ → Type 0) → IsOk r → PutsSafely syncs was left changed bytes old new r → Q bytes → SurvivesAs P was (world_after d w old) → SurvivesAs Q left (world_after d w new)
  safe_done (Err e) P Q ok puts holds s = absurd (false≢true ok)
  safe_done (Ok x) P Q ok puts holds s =
      record { now = bytes; other = bytes; is = any; was = any; holds = holds; held = holds; end = Whole; left = puts ordered d w honest differs s.end s.other s.now s.is s.left }

-- the bytes differ within the spans alone, if the contents are known
abbrev pub MayDifferBy : Option Held → List FileSpan → List Event → List ℕ → Type 0
MayDifferBy None changed old bytes = Unit {0}
MayDifferBy (Some code) changed old bytes = MayDiffer changed (represented (held_after (world_in code) old)) bytes

differs_at : (changed : List FileSpan) (h : Held) (bytes : List ℕ) → DiffersWithin changed (Some h) bytes → MayDiffer changed h bytes
differs_at changed Missing bytes is = absurd is
differs_at changed (Bytes old) bytes is = λ now same any. subst (λ (b : List ℕ). file.AgreesOutside changed b bytes) (let e : Bytes old ≡ Bytes now = same in cc) is.1

pub differs_by : (s : Option Held) (changed : List FileSpan) (old : List Event) (bytes : List ℕ) → DiffersWithin changed (contents_after s old) bytes → MayDifferBy s changed old bytes
differs_by None changed old bytes is = tt
differs_by (Some code) changed old bytes is = differs_at changed (represented (held_after (world_in code) old)) bytes is

pub whole_differs_by : (s : Option Held) (old : List Event) (bytes : List ℕ) → MayDifferBy s (record { start = 0; end = length bytes } ∷ []) old bytes
whole_differs_by None old bytes = tt
whole_differs_by (Some code) old bytes = whole_may_differ bytes (represented (held_after (world_in code) old))

-- ---- a run

pub surviving : Laws → (P : List ℕ → Type 0) (v : views.World) → Survives P v → SurvivesPower P v
surviving laws P v s = left_survives laws P s.end s.other s.now v s.was s.is s.held s.holds s.left

-- before the first call
pub unopened_as : (P : List ℕ → Type 0) (f : Found) (d : List ℕ) (w : World) (before : List Event) → before ≡ [] → f ≡ Unopened → Survives P (world_after d w []) → SurvivesAs P f (world_after d w before)
unopened_as P f d w before none closed s =
    subst (λ (g : Found). SurvivesAs P g (world_after d w before)) (sym closed)
    (subst (λ (events : List Event). SurvivesAs P Unopened (world_after d w events)) (sym none)
    (record { now = s.now; other = s.other; is = s.is; was = s.was; holds = s.holds; held = s.held; end = s.end; left = s.left }))

-- ---- the power fails in the middle

pub interrupted_survives : Laws → (missed events : List Event) (run : runs.Run) → IsTrue (are_failed missed) → SurvivesRun (missed ++ events) run → SurvivesRun (interrupted missed ++ events) run
interrupted_survives laws missed events run are =
    interrupted_as (λ l. SurvivesRun l run) (λ later last failed all d w honest sound P holds s.
    cut_power laws [] later last failed d w honest (λ b. IsTrue (P b)) s (λ now. all d (cut w (failures last)) now sound P holds s)) missed events are
