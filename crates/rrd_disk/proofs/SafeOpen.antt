-- What a run on an open file leaves for a failure of the power.
use Rattle.rrd_disk.proofs.Names.{arith, ◌≡◌, ◌∙◌, ℕ, Bool, IsTrue, List, [], ◌∷◌, ◌++◌, length, ◌≤◌, Option, Some, None, refl, sym, ap, subst, LogEnd, Stays, Syncs, Log, Encoded, Stored, IsInMemory, Bytes, Held, held_of, world_in, Rests, IsSound, contents_after, is_honest_by, represented, Event, world_after, are_failed, interrupted, World, bytes_of, failures, held_after, is_honest_after, IsLeftAs, IsSafeOpen, StaysSafe, StoresOpenRun, SurvivesAs, SurvivesInOpenRun, SurvivesMeanwhile, SurvivesOpenRun, DoesSafely, Reopens, is_safe_by, Laws, is_sound_by, SurvivesPower, Read, Found, Unopened, Unwritable, Open, Kept, append_assoc}
use Rattle.rrd_change.specs.States.{IsKept}
use Rattle.rrd_disk.proofs.Asked.{world_in_held}
use Rattle.rrd_disk.proofs.Failures.{Wider, stays_left, stays_rest, stays_surviving, wider_missed}
use Rattle.rrd_disk.proofs.Kills.{split}
use Rattle.rrd_disk.proofs.Powering.{rests_stay}
use Rattle.rrd_disk.proofs.Programs.{goes_on, whole}
use Rattle.rrd_disk.proofs.Resting.{held_is}
use Rattle.rrd_disk.proofs.Safe.{as_left, reopened, survives, surviving}
use Rattle.rrd_change.specs.Views as views
use Rattle.rrd_store.specs.Runs as runs
use Rattle.rrd_store.specs.Storages as storages
use Rattle.rrd_disk.specs.OpenRuns as files
use Rattle.rrd_disk.specs.declared.storage.Found.TheVariants as found

-- ---- calls that rest

stays_kept : (u v : views.World) → Stays u v → (now : List ℕ) (log : Option Log) → IsKept now log u → IsKept now log v
stays_kept u v same now None is = grind arith
stays_kept u v same now (Some log) is = grind arith

stays_as : (f : Found) (u v : views.World) → Stays u v → (end : LogEnd) (other now : List ℕ) → IsLeftAs f end other now u → IsLeftAs f end other now v
stays_as found.Missing u v same end other now left = absurd left
stays_as (Open base) u v same end other now left = (left.0, stays_rest u v same now left.1)
stays_as (Kept base log) u v same end other now left = (left.0, stays_kept u v same now log left.1)
stays_as _ u v same end other now left = stays_left u v same end other now left

module _ (y0 y1 : Syncs) (f0 f1 : Found) (old new : List Event) (rests : Rests old new) (syncs : y1 ≡ y0) where
  moved_as : (P : List ℕ → Type 0) (d : List ℕ) (w : World) (f : Found) → SurvivesAs P f (world_after d w old) → SurvivesAs P f (world_after d w new)
  moved_as P d w f s = record {
    now = s.now;
    other = s.other;
    is = s.is;
    was = s.was;
    holds = s.holds;
    held = s.held;
    end = s.end;
    left = stays_as f (world_after d w old) (world_after d w new) (rests_stay Read old new rests d w) s.end s.other s.now s.left;
  }

  closed_as : (P : List ℕ → Type 0) (v : views.World) (f : Found) → SurvivesAs P f v → SurvivesAs P Unopened v
  closed_as P v f s = record { now = s.now; other = s.other; is = s.is; was = s.was; holds = s.holds; held = s.held; end = s.end; left = as_left f s.end s.other s.now v s.left }

  -- the file is as it was found
  pub rests_safe : f1 ≡ f0 → StaysSafe y0 f0 old y1 f1 new
  rests_safe same = λ d w honest P safe. (syncs ∙ safe.0, subst (λ (f : Found). SurvivesAs (λ b. IsTrue (P b)) f (world_after d w new)) (sym same) (moved_as (λ b. IsTrue (P b)) d w f0 safe.1))

  -- or closed
  pub rests_safe_closed : f1 ≡ Unopened → StaysSafe y0 f0 old y1 f1 new
  rests_safe_closed same = λ d w honest P safe. (
    syncs ∙ safe.0,
    subst (λ (f : Found). SurvivesAs (λ b. IsTrue (P b)) f (world_after d w new)) (sym same) (closed_as (λ b. IsTrue (P b)) (world_after d w new) f0 (moved_as (λ b. IsTrue (P b)) d w f0 safe.1)),
  )

-- ---- a run of a session, between such calls

module _ (y0 y1 y2 y3 : Syncs) (f0 f1 f2 f3 : Found) (old before after new : List Event) (first : StaysSafe y0 f0 old y1 f1 before) (then : StaysSafe y2 f2 after y3 f3 new)
    (begun : Rests old before) (rests : Rests after new) (d1 : Option Stored) (e1 : Option Encoded) (falls : (s : Option Held) → is_honest_by s after → is_honest_by s before)
    (kept : files.IsKept f1 before d1 e1) (run : runs.Run) where
  before_all : (w : World) → IsTrue (is_honest_after w new) → IsTrue (is_honest_after w before)
  before_all w honest = subst (λ (v : World). IsTrue (is_honest_after v after) → IsTrue (is_honest_after v before)) (world_in_held w) (falls (Some (held_of w))) (rests.falls w honest)

  did_before : (w : World) (P : List ℕ → Bool) → ((b : List ℕ) → runs.Did (represented (held_after w old)) run (Bytes b) → IsTrue (P b)) → (b : List ℕ) → runs.Did (represented (held_after w before)) run (Bytes b) → IsTrue (P b)
  did_before w P holds b did = holds b (subst (λ (h : Held). runs.Did (represented h) run (Bytes b)) (begun.held w) did)

  pub open_survives : ((s : Option Held) (d : List ℕ) (Q : List ℕ → Bool) → is_honest_by s after → is_sound_by s f1 before → IsInMemory (contents_after s before) d1 e1
      → ((b : List ℕ) → runs.DidIn (contents_after s before) run (Some (Bytes b)) → IsTrue (Q b)) → is_safe_by s d Q y1 f1 before → is_safe_by s d Q y2 f2 after)
      → SurvivesOpenRun y0 f0 old y3 f3 new run
  open_survives safe = λ d w honest is P holds start.
      let step = subst (λ (v : World). IsTrue (is_honest_after v after) → IsSound v.start → ((b : List ℕ) → runs.Did (represented (held_after v before)) run (Bytes b) → IsTrue (P b)) → IsSafeOpen y1 f1 before P d v → IsSafeOpen y2 f2 after P d v)
      (world_in_held w) (λ ended sound ran ready. let was = kept (world_in (held_of w)) (falls (Some (held_of w)) ended) sound in safe (Some (held_of w)) (0 ∷ d) P ended was.sound was.memory ran ready) in
      then d w honest P (step (rests.falls w honest) is (did_before w P holds) (first d w (before_all w honest) P start))

  pub open_stores : ((s : Option Held) (d : List ℕ) (Q T : List ℕ → Bool) → is_honest_by s after → is_sound_by s f1 before → IsInMemory (contents_after s before) d1 e1
      → ((b : List ℕ) → runs.DidIn (contents_after s before) run (Some (Bytes b)) → IsTrue (T b))
      → (storages.Stays (contents_after s before) (contents_after s after) → is_safe_by s d T y1 f1 before) → is_safe_by s d Q y1 f1 before → is_safe_by s d T y2 f2 after)
      → StoresOpenRun y0 f0 old y3 f3 new run
  open_stores safe = λ d w honest is P Q holds stays start.
      let step = subst (λ (v : World). IsTrue (is_honest_after v after) → IsSound v.start → ((b : List ℕ) → runs.Did (represented (held_after v before)) run (Bytes b) → IsTrue (Q b))
      → (represented (held_after v after) ≡ represented (held_after v before) → IsSafeOpen y1 f1 before Q d v) → IsSafeOpen y1 f1 before P d v → IsSafeOpen y2 f2 after Q d v)
      (world_in_held w) (λ ended sound ran still ready. let was = kept (world_in (held_of w)) (falls (Some (held_of w)) ended) sound in safe (Some (held_of w)) (0 ∷ d) P Q ended was.sound was.memory ran still ready) in
      then d w honest Q (step (rests.falls w honest) is (did_before w Q holds)
      (λ kept_so. first d w (before_all w honest) Q (stays (ap represented (rests.held w) ∙ kept_so ∙ ap represented (begun.held w)))) (first d w (before_all w honest) P start))

-- a call that changes no database, between such calls
module _ (y0 y1 y2 y3 : Syncs) (f0 f1 f2 f3 : Found) (old before after new : List Event) (first : StaysSafe y0 f0 old y1 f1 before) (then : StaysSafe y2 f2 after y3 f3 new)
    (rests : Rests after new) (falls : (s : Option Held) → is_honest_by s after → is_honest_by s before) where
  pub open_loads : ((s : Option Held) (d : List ℕ) (Q : List ℕ → Bool) → is_honest_by s after → is_safe_by s d Q y1 f1 before → is_safe_by s d Q y2 f2 after) → StaysSafe y0 f0 old y3 f3 new
  open_loads safe = λ d w honest P start.
      let ended = rests.falls w honest in
      let was = subst (λ (v : World). IsTrue (is_honest_after v after) → IsTrue (is_honest_after v before)) (world_in_held w) (falls (Some (held_of w))) ended in
      let step = subst (λ (v : World). IsTrue (is_honest_after v after) → IsSafeOpen y1 f1 before P d v → IsSafeOpen y2 f2 after P d v) (world_in_held w) (λ now ready. safe (Some (held_of w)) (0 ∷ d) P now ready) in
      then d w honest P (step ended (first d w was P start))

-- ---- the power fails in a run

-- with the calls that were not made the disk may have as much, or more
missed_power : (P : List ℕ → Type 0) (d : List ℕ) (w : World) (missed events : List Event) → IsTrue (are_failed missed) → length w.parts ≤ failures (interrupted missed ++ events)
    → IsTrue (is_honest_after w (interrupted missed ++ events)) → SurvivesPower P (world_after d w (missed ++ events)) → SurvivesPower P (world_after d w (interrupted missed ++ events))
missed_power P d w missed events are few honest power =
    let last : List Event = interrupted missed ++ events in
    let parts = split missed are in
    let all : missed ++ events ≡ parts.later ++ last = ap (λ (l : List Event). l ++ events) parts.all ∙ append_assoc parts.later (interrupted missed) events in
    let same = (goes_on w missed events are few honest).same in
    let wide : Wider (world_after d w last) (world_after d w (parts.later ++ last)) =
    subst (λ (v : World). Wider (world_after d v last) (world_after d v (parts.later ++ last))) (whole w last few) (wider_missed d w (failures last) last refl parts.later parts.failed) in
    let wide_so : Wider (world_after d w last) (world_after d w (missed ++ events)) = subst (λ (l : List Event). Wider (world_after d w last) (world_after d w l)) (sym all) wide in
    stays_surviving (world_after d w (missed ++ events)) (world_after d w last)
    (record { held = held_is d w last ∙ ap bytes_of (sym same) ∙ sym (held_is d w (missed ++ events)); leave = wide_so.leave; keep = wide_so.keep }) P power

module _ (laws : Laws) (gone before missed events : List Event) (none : gone ≡ []) (are : IsTrue (are_failed missed)) where
  pub power_in_run : (y0 y1 : Syncs) (f0 f1 : Found) (run : runs.Run) → SurvivesOpenRun y0 f0 (gone ++ before) y1 f1 (missed ++ events) run
      → SurvivesInOpenRun y0 f0 before (interrupted missed ++ events) run
  power_in_run y0 y1 f0 f1 run did = λ d w few honest sound P holds start.
      let on = goes_on w missed events are few honest in
      let here : SurvivesOpenRun y0 f0 before y1 f1 (missed ++ events) run = subst (λ (l : List Event). SurvivesOpenRun y0 f0 (l ++ before) y1 f1 (missed ++ events) run) none did in
      let last = here d w on.honest sound P holds start in
      missed_power (λ b. IsTrue (P b)) d w missed events are few honest
      (surviving laws (λ b. IsTrue (P b)) (world_after d w (missed ++ events)) (survives (λ b. IsTrue (P b)) f1 (world_after d w (missed ++ events)) last.1))

-- ---- the power fails while the file is opened, read again or closed

module _ (laws : Laws) (start before missed events : List Event) (same : start ≡ before) (are : IsTrue (are_failed missed)) where
  pub power_meanwhile : (y0 y1 : Syncs) (f0 f1 : Found) → StaysSafe y0 f0 start y1 f1 (missed ++ events) → SurvivesMeanwhile y0 f0 before (interrupted missed ++ events)
  power_meanwhile y0 y1 f0 f1 stays = λ d w few honest P safe.
      let on = goes_on w missed events are few honest in
      let last = stays d w on.honest P (subst (λ (l : List Event). IsSafeOpen y0 f0 l P d w) (sym same) safe) in
      missed_power (λ b. IsTrue (P b)) d w missed events are few honest
      (surviving laws (λ b. IsTrue (P b)) (world_after d w (missed ++ events)) (survives (λ b. IsTrue (P b)) f1 (world_after d w (missed ++ events)) last.1))

-- calls that left the file in this state
pub reopened_safe : (syncs : Syncs) (was found : Found) (old new : List Event) → DoesSafely (Reopens was found) syncs old new → StaysSafe syncs was old syncs found new
reopened_safe syncs was found old new does = λ d w honest P safe.
    (safe.0, reopened (λ b. IsTrue (P b)) was found (world_after d w old) (world_after d w new) (does safe.0 d w honest) safe.1)
