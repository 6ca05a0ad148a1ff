-- Runs on the file at a path, by the records of their calls.
use Rattle.rrd_disk.proofs.Names.{◌≡◌, IsTrue, List, [], ◌∷◌, map, Option, Some, None, refl, sym, ◌∙◌, subst, Stored, Held, held_of, world_in, IsSound, contents_after, is_honest_by, represented, Event, World, held_after, is_honest_after, AreHonest, AreRuns, FilesFollowSpecification, IsRecordOf, IsRun, Recorded, left_by, Laws, is_sound_by, Found, Unopened, arith, common_steps}
use Rattle.rrd_disk.proofs.Asked.{world_in_held}
use Rattle.rrd_disk.proofs.Storing.{database_unmarked, file_database, itself, sound_as, sound_unmarked}
use Rattle.rrd_disk.specs.Runs.{last_of}
use Rattle.rrd_store.specs.Runs as runs

-- ---- one run

-- what a storage says of a run, at the record of its calls
pub run_from : (f0 f1 : Found) (before after : List Event) (run : runs.Run) → before ≡ [] → f0 ≡ Unopened
    → ((s : Option Held) → is_honest_by s after → is_sound_by s f0 before → is_sound_by s f1 after)
    → ((s : Option Held) → is_honest_by s after → is_sound_by s f0 before → runs.DidIn (contents_after s before) run (contents_after s after))
    → IsRun after run
run_from f0 f1 before after run none closed sound did = λ w.
    subst (λ (v : World). IsTrue (is_honest_after v after) → IsSound v.start → IsSound (held_after v after) × runs.Did (represented v.start) run (represented (held_after v after))) (world_in_held w) (λ honest is.
    let code = held_of w in
    let v = world_in code in
    let begun : is_sound_by (Some code) f0 before = subst (λ (f : Found). is_sound_by (Some code) f before) (sym closed) (subst (λ (events : List Event). is_sound_by (Some code) Unopened events) (sym none) is) in (
      sound_as f1 (held_after v after) (sound (Some code) honest begun),
      subst (λ (events : List Event). runs.DidIn (contents_after (Some code) events) run (contents_after (Some code) after)) none (did (Some code) honest begun),
    ))

-- ---- one run after another

abbrev happenings : List Recorded → List runs.Event
happenings recorded = map (λ (r : Recorded). r.run) recorded

-- one run, ended or killed
pub one_happened : (w : World) (events : List Event) (run : runs.Event) → IsSound w.start → IsRecordOf events run → IsTrue (is_honest_after w events)
    → IsSound (held_after w events) × runs.Happened (represented w.start) run (represented (held_after w events))
one_happened w events (runs.Ended run) sound is honest = is w honest sound
one_happened w events (runs.Killed run) sound is honest = is w honest sound

happened : (start : Held) (recorded : List Recorded) → IsSound start → AreRuns recorded → AreHonest start recorded
    → runs.HappenedAll (represented start) (happenings recorded) (represented (last_of start recorded))
happened start [] sound are honest = refl
happened start (r ∷ later) sound are honest =
    let one = one_happened (record { start = start; parts = r.parts }) r.events r.run sound are.0 honest.0 in
    (represented (left_by start r), one.1, happened (left_by start r) later one.0 are.1 honest.1)

module _ (laws : Laws) where
  -- the first file has no mark
  pub first_sound : (start : Held) (first : Option Stored) → runs.IsFirst start first → IsSound start
  first_sound start None is = subst IsSound (sym is) tt
  first_sound start (Some d) is = sound_unmarked start is.0 is.1 (database_unmarked is.0 (file_database laws is.0 d is.2))

  pub first_itself : (start : Held) (first : Option Stored) → runs.IsFirst start first → represented start ≡ start
  first_itself start None is = subst (λ (h : Held). represented h ≡ h) (sym is) refl
  first_itself start (Some d) is = itself start is.0 is.1 (database_unmarked is.0 (file_database laws is.0 d is.2)) ∙ sym is.1

  pub files_follow : ((old : Held) (first : Option Stored) (events : List runs.Event) (new : Held) → runs.RunsFollowSpecification old first events new)
      → (start : Held) (first : Option Stored) (recorded : List Recorded) → FilesFollowSpecification start first recorded
  files_follow follow start first recorded = grind (arith, common_steps, happened, first_sound, first_itself)
