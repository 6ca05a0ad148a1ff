-- Runs on a file that stays open, by the record of their calls.
use Rattle.rrd_disk.proofs.Names.{arith, ◌≡◌, ap, IsTrue, List, [], ◌∷◌, map, Option, Some, None, refl, subst, Encoded, Stored, IsInMemory, Held, held_of, world_in, Rests, IsSound, contents_after, is_honest_by, represented, Event, AreOpenRuns, IsKept, IsKeptOf, IsOpenRun, IsReload, OpenFilesFollowSpecification, RecordedOpen, record_of, World, held_after, is_honest_after, IsSoundAs, Laws, is_sound_by, Found, Unopened, common_steps}
use Rattle.rrd_disk.proofs.Asked.{world_in_held}
use Rattle.rrd_disk.proofs.FileRuns.{first_itself, first_sound}
use Rattle.rrd_disk.proofs.Storing.{sound_as}
use Rattle.rrd_store.specs.Runs as runs

abbrev pub held_or : Held → Option Held → Held
held_or or None = or
held_or or (Some held) = held

-- ---- one run

-- what a session says of a run, at the records before it and after it
module _ (f0 f1 : Found) (old new : List Event) (d0 d1 : Option Stored) (e0 e1 : Option Encoded) (falls : (s : Option Held) → is_honest_by s new → is_honest_by s old) where
  pub kept_from : ((s : Option Held) → is_honest_by s new → is_sound_by s f0 old → IsInMemory (contents_after s old) d0 e0 → is_sound_by s f1 new)
      → ((s : Option Held) → is_honest_by s new → is_sound_by s f0 old → IsInMemory (contents_after s old) d0 e0 → IsInMemory (contents_after s new) d1 e1)
      → IsKept f0 old d0 e0 → IsKept f1 new d1 e1
  kept_from sound memory kept w = subst (λ (v : World). IsTrue (is_honest_after v new) → IsSound v.start → IsKeptOf f1 (held_after v new) d1 e1) (world_in_held w) (λ honest is.
      let was = kept (world_in (held_of w)) (falls (Some (held_of w)) honest) is in
      record { sound = sound (Some (held_of w)) honest was.sound was.memory; memory = memory (Some (held_of w)) honest was.sound was.memory })

  pub open_from : (run : runs.Run)
      → ((s : Option Held) → is_honest_by s new → is_sound_by s f0 old → IsInMemory (contents_after s old) d0 e0 → runs.DidIn (contents_after s old) run (contents_after s new))
      → IsKept f0 old d0 e0 → IsOpenRun old new run
  open_from run did kept w =
      subst (λ (v : World). IsTrue (is_honest_after v new) → IsSound v.start → IsTrue (is_honest_after v old) × runs.Did (represented (held_after v old)) run (represented (held_after v new))) (world_in_held w) (λ honest is.
      let before = falls (Some (held_of w)) honest in
      let was = kept (world_in (held_of w)) before is in (before, did (Some (held_of w)) honest was.sound was.memory))

  pub reload_from : ((s : Option Held) → is_honest_by s new → is_sound_by s f0 old → contents_after s new ≡ contents_after s old) → IsKept f0 old d0 e0 → IsReload old new
  reload_from stays kept w =
      subst (λ (v : World). IsTrue (is_honest_after v new) → IsSound v.start → IsTrue (is_honest_after v old) × (represented (held_after v new) ≡ represented (held_after v old))) (world_in_held w) (λ honest is.
      let before = falls (Some (held_of w)) honest in
      let was = kept (world_in (held_of w)) before is in (before, ap (held_or w.start) (stays (Some (held_of w)) honest was.sound)))

-- ---- calls that change nothing, before a run and after it

-- nothing is in memory
pub in_none : (held : Option Held) → IsInMemory held None None
in_none None = record { read = tt; bytes = tt }
in_none (Some h) = record { read = tt; bytes = tt }

-- what is in memory stays, or is forgotten; and the file is as it was found, or closed
pub kept_rests : (f0 f1 : Found) (old new : List Event) (d0 d1 : Option Stored) (e0 e1 : Option Encoded) → Rests old new
    → ((h : Held) → IsSoundAs f0 h → IsSoundAs f1 h) → ((held : Option Held) → IsInMemory held d0 e0 → IsInMemory held d1 e1)
    → IsKept f0 old d0 e0 → IsKept f1 new d1 e1
kept_rests f0 f1 old new d0 d1 e0 e1 rests sound memory kept w honest is = grind arith

pub kept_as : (f0 f1 : Found) (old new : List Event) (d0 d1 : Option Stored) (e0 e1 : Option Encoded) → Rests old new → f1 ≡ f0 → d1 ≡ d0 → e1 ≡ e0
    → IsKept f0 old d0 e0 → IsKept f1 new d1 e1
kept_as f0 f1 old new d0 d1 e0 e1 rests found database encoded = grind arith

pub kept_closed : (f0 f1 : Found) (old new : List Event) (d0 d1 : Option Stored) (e0 e1 : Option Encoded) → Rests old new → f1 ≡ Unopened → d1 ≡ None → e1 ≡ None
    → IsKept f0 old d0 e0 → IsKept f1 new d1 e1
kept_closed f0 f1 old new d0 d1 e0 e1 rests found database encoded = grind (arith, kept_rests, sound_as, in_none)

-- the same where nothing was in memory
pub kept_none : (f0 f1 : Found) (old new : List Event) (d : Option Stored) (e : Option Encoded) → Rests old new → f1 ≡ Unopened
    → IsKept f0 old d e → IsKept f1 new d e
kept_none f0 f1 old new d e rests found = grind (arith, kept_rests, sound_as)

pub run_between : (run : runs.Run) (old before after new : List Event) → Rests old before → Rests after new → IsOpenRun before after run → IsOpenRun old new run
run_between run old before after new first second ran w honest is = grind arith

pub reload_between : (old before after new : List Event) → Rests old before → Rests after new → IsReload before after → IsReload old new
reload_between old before after new first second reloaded w honest is = grind arith

-- ---- one run after another

abbrev ended : List RecordedOpen → List runs.Event
ended recorded = map (λ (r : RecordedOpen). runs.Ended r.run) recorded

-- a record that is honest after all runs was honest before them
honest_before : (w : World) (before : List Event) (recorded : List RecordedOpen) → IsSound w.start → AreOpenRuns before recorded
    → IsTrue (is_honest_after w (record_of before recorded)) → IsTrue (is_honest_after w before)
honest_before w before [] sound are honest = honest
honest_before w before (r ∷ later) sound are honest = (are.0 w (honest_before w r.events later sound are.1 honest) sound).0

happened : (w : World) (before : List Event) (recorded : List RecordedOpen) → IsSound w.start → AreOpenRuns before recorded
    → IsTrue (is_honest_after w (record_of before recorded))
    → runs.HappenedAll (represented (held_after w before)) (ended recorded) (represented (held_after w (record_of before recorded)))
happened w before [] sound are honest = refl
happened w before (r ∷ later) sound are honest = grind (arith, honest_before, happened w r.events later sound are.1 honest)

module _ (laws : Laws) where
  pub open_files_follow : ((old : Held) (first : Option Stored) (events : List runs.Event) (new : Held) → runs.RunsFollowSpecification old first events new)
      → (w : World) (first : Option Stored) (opened : List Event) (recorded : List RecordedOpen) → OpenFilesFollowSpecification w first opened recorded
  open_files_follow follow w first opened recorded = grind (arith, common_steps, first_sound, happened, honest_before, first_itself)
