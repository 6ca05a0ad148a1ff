-- Programs that keep a file open and are killed, by the records of their calls.
use Rattle.rrd_disk.proofs.Names.{◌≡◌, ◌∙◌, ℕ, ◌≤◌, Bool, IsTrue, List, [], ◌∷◌, ◌++◌, length, take, Option, inl, inr, refl, sym, ap, subst, arith, length-take, and_parts, append_assoc, take_all, Encoded, Stored, Held, Bytes, IsSound, represented, Event, are_failed, interrupted, is_failed, IsKept, IsOpenRun, IsReload, LeavesSound, ArePrograms, AreSteps, End, IsEnd, IsKeeper, IsKilledOpenRun, IsLeaving, IsProgram, Keeper, KilledIn, Keeps, Left, Program, ProgramsFollowSpecification, Ran, Reread, Runs, Step, all_runs, end_run, last_of, record_after, record_at, runs_of, steps_run, World, bytes_of, failures, held_after, is_honest_after, Laws, Found, common_steps}
use Rattle.rrd_disk.proofs.FileRuns.{first_itself, first_sound}
use Rattle.rrd_disk.proofs.Kills.{cut, cut_held, cut_honest, missed_held, missed_honest, split}
use Rattle.rrd_disk.proofs.Storing.{sound_as}
use Rattle.rrd_disk.specs.Programs.{AreHonest, left_by, record_of, world_for}
use Rattle.rrd_store.specs.Runs as runs

-- ---- the calls that a killed program did not make

module _ (w : World) (events : List Event) (few : length w.parts ≤ failures events) where
  pub whole : cut w (failures events) ≡ w
  whole = ap (λ (parts : List ℕ). let v : World = record { start = w.start; parts = parts } in v) (take_all (failures events) w.parts few)

  missed_same : (missed : List Event) → IsTrue (are_failed missed) → held_after w (missed ++ events) ≡ held_after w events
  missed_same missed are = grind (arith, common_steps, whole, missed_held)

  missed_true : (missed : List Event) → IsTrue (are_failed missed) → held_after w events ≡ Bytes (bytes_of (held_after w events))
      → IsTrue (is_honest_after w events) → IsTrue (is_honest_after w (missed ++ events))
  missed_true missed are there honest = grind (arith, common_steps, whole, missed_honest)

-- with the calls that the program did not make the record is honest too, and the file is the same
pub record Goes (w : World) (missed events : List Event) : Type 0 where
  pub honest : IsTrue (is_honest_after w (missed ++ events))
  pub same : held_after w (missed ++ events) ≡ held_after w (interrupted missed ++ events)

there_after : (w : World) (e : Event) (events : List Event) → IsTrue (is_failed e) → IsTrue (is_honest_after w (e ∷ events))
    → held_after w (e ∷ events) ≡ Bytes (bytes_of (held_after w (e ∷ events)))
there_after w e events is honest = grind arith

-- the oldest of these calls
first_there : (w : World) (missed events : List Event) (e : Event) (more : List Event) → missed ≡ e ∷ more → IsTrue (are_failed missed)
    → IsTrue (is_honest_after w (interrupted missed ++ events))
    → held_after w (interrupted missed ++ events) ≡ Bytes (bytes_of (held_after w (interrupted missed ++ events)))
first_there w [] events e more is are honest = absurd cc
first_there w (f ∷ []) events e more is are honest = there_after w f events (and_parts (is_failed f) (are_failed []) are).0 honest
first_there w (f ∷ g ∷ rest) events e more is are honest = grind (arith, first_there w (g ∷ rest) events g rest refl (and_parts (is_failed f) (are_failed (g ∷ rest)) are).1 honest)

pub goes_on : (w : World) (missed events : List Event) → IsTrue (are_failed missed) → length w.parts ≤ failures (interrupted missed ++ events)
    → IsTrue (is_honest_after w (interrupted missed ++ events)) → Goes w missed events
goes_on w [] events are few honest = record { honest = honest; same = refl }
goes_on w (e ∷ more) events are few honest =
    let missed : List Event = e ∷ more in
    let last : List Event = interrupted missed ++ events in
    let parts = split missed are in
    let all : missed ++ events ≡ parts.later ++ last = ap (λ (l : List Event). l ++ events) parts.all ∙ append_assoc parts.later (interrupted missed) events in
    let there = first_there w missed events e more refl are honest in
    record {
      honest = subst (λ (l : List Event). IsTrue (is_honest_after w l)) (sym all) (missed_true w last few parts.later parts.failed there honest);
      same = subst (λ (l : List Event). held_after w l ≡ held_after w last) (sym all) (missed_same w last few parts.later parts.failed);
    }

-- ---- one call on an open file

pub kept_sound : (found : Found) (events : List Event) (database : Option Stored) (encoded : Option Encoded) → IsKept found events database encoded → LeavesSound events
kept_sound found events database encoded kept w honest sound = sound_as found (held_after w events) (kept w honest sound).sound

module _ (before missed events : List Event) (are : IsTrue (are_failed missed)) (leaves : LeavesSound (missed ++ events)) where
  pub killed_open : (run : runs.Run) → IsOpenRun before (missed ++ events) run → IsKilledOpenRun before (interrupted missed ++ events) run
  killed_open run did w few honest sound =
      let on = goes_on w missed events are few honest in
      let one = did w on.honest sound in (
        one.0,
        subst IsSound on.same (leaves w on.honest sound),
        subst (λ (h : Held). runs.WasKilled (represented (held_after w before)) run (represented h)) on.same (inr (inl one.1)),
      )

  pub leaving : IsReload before (missed ++ events) → IsLeaving before (interrupted missed ++ events)
  leaving same w few honest sound =
      let on = goes_on w missed events are few honest in
      let one = same w on.honest sound in (
        one.0,
        subst IsSound on.same (leaves w on.honest sound),
        subst (λ (h : Held). represented h ≡ represented (held_after w before)) on.same one.1,
      )

-- before that call no call was missed
module _ (gone before : List Event) (none : gone ≡ []) where
  pub alive_kept : (found : Found) (database : Option Stored) (encoded : Option Encoded) → IsKept found before database encoded → IsKept found (gone ++ before) database encoded
  alive_kept found database encoded kept = subst (λ (l : List Event). IsKept found (l ++ before) database encoded) (sym none) kept

  pub alive_run : (after : List Event) (run : runs.Run) → IsOpenRun (gone ++ before) after run → IsOpenRun before after run
  alive_run after run did = subst (λ (l : List Event). IsOpenRun (l ++ before) after run) none did

  pub alive_reload : (after : List Event) → IsReload (gone ++ before) after → IsReload before after
  alive_reload after same = subst (λ (l : List Event). IsReload (l ++ before) after) none same

-- ---- one run after another

happened_more : (a b c : Held) (first then : List runs.Event) → runs.HappenedAll a first b → runs.HappenedAll b then c → runs.HappenedAll a (first ++ then) c
happened_more a b c [] then one more = subst (λ (h : Held). runs.HappenedAll h then c) one more
happened_more a b c (e ∷ first) then one more = (one.0, one.1, happened_more one.0 b c first then one.2 more)

-- the steps of a program, back from the last record
pub record Went (w : World) (before : List Event) (steps : List Step) : Type 0 where
  pub honest : IsTrue (is_honest_after w before)
  pub all : runs.HappenedAll (represented (held_after w before)) (steps_run steps) (represented (held_after w (record_after before steps)))

went : (w : World) (before : List Event) (steps : List Step) → IsSound w.start → AreSteps before steps
    → IsTrue (is_honest_after w (record_after before steps)) → Went w before steps
went w before [] sound are honest = record { honest = honest; all = refl }
went w before (Ran run events ∷ later) sound are honest = grind (arith, went w events later sound are.1 honest)
went w before (Reread events ∷ later) sound are honest = grind (arith, went w events later sound are.1 honest)

-- the end of a program that kept the file open, if nothing is assumed of calls that it did not make
pub record Ends (w : World) (before : List Event) (end : End) : Type 0 where
  pub honest : IsTrue (is_honest_after w before)
  pub sound : IsSound (held_after w (record_at end))
  pub all : runs.HappenedAll (represented (held_after w before)) (end_run end) (represented (held_after w (record_at end)))

ended : (w : World) (before : List Event) (end : End) → IsEnd before end → length w.parts ≤ failures (record_at end)
    → IsTrue (is_honest_after w (record_at end)) → IsSound w.start → Ends w before end
ended w before (Left events) is few honest sound = grind arith
ended w before (KilledIn run events) is few honest sound = grind arith

-- what a program did to the file
pub record Acts (start : Held) (happened : List runs.Event) (last : Held) : Type 0 where
  pub sound : IsSound last
  pub all : runs.HappenedAll (represented start) happened (represented last)

kept_acts : (w : World) (k : Keeper) → IsKeeper k → length w.parts ≤ failures (record_at k.end) → IsTrue (is_honest_after w (record_at k.end)) → IsSound w.start
    → Acts w.start (steps_run k.steps ++ end_run k.end) (held_after w (record_at k.end))
kept_acts w k is few honest sound = grind (arith, common_steps, ended, went, happened_more)

-- of calls that were not made nothing need be assumed
program_acts : (start : Held) (p : Program) → IsProgram p
    → IsTrue (is_honest_after (world_for start p) (record_of p)) → IsSound start → Acts start (runs_of p) (left_by start p)
program_acts start (Runs r) is honest sound = grind arith
program_acts start (Keeps k) is honest sound =
    let w = world_for start (Keeps k) in
    let events = record_at k.end in
    let m = failures events in
    let few : length (take m k.parts) ≤ m = omega (arith, length-take m k.parts) in
    let true_ = subst (λ (b : Bool). IsTrue b) (sym (cut_honest w m events (omega arith))) honest in
    subst (λ (h : Held). Acts start (runs_of (Keeps k)) h) (cut_held w m events (omega arith)) (kept_acts (cut w m) k is few true_ sound)

all_act : (start : Held) (programs : List Program) → IsSound start → ArePrograms programs → AreHonest start programs
    → runs.HappenedAll (represented start) (all_runs programs) (represented (last_of start programs))
all_act start [] sound are honest = refl
all_act start (p ∷ later) sound are honest =
    let one = program_acts start p are.0 honest.0 sound in
    happened_more (represented start) (represented (left_by start p)) (represented (last_of start (p ∷ later))) (runs_of p) (all_runs later)
    one.all (all_act (left_by start p) later one.sound are.1 honest.1)

module _ (laws : Laws) where
  pub programs_follow : ((old : Held) (first : Option Stored) (events : List runs.Event) (new : Held) → runs.RunsFollowSpecification old first events new)
      → (start : Held) (first : Option Stored) (programs : List Program) → ProgramsFollowSpecification start first programs
  programs_follow follow start first programs = grind (arith, common_steps, all_act, first_sound, first_itself)
