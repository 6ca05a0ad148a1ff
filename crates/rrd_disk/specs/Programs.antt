-- Definition: programs that use a file one after another. Each ran once on its path, or kept the file open for several runs;
-- each came to its end, or was killed. Law: after any list of them on one honest file, its bytes and all printed text are
-- what the definitions compute.
use Rattle.std.specs.Prelude.{◌≡◌, ◌≤◌, ◌++◌, IsTrue, List, [], ◌∷◌, ℕ, Option, length, ⊤}
use Rattle.rrd_disk.specs.Contents.{IsSound, represented}
use Rattle.rrd_disk.specs.Events.{Event}
use Rattle.rrd_disk.specs.OpenRuns.{IsOpenRun, IsOpened, IsReload}
use Rattle.rrd_disk.specs.Replayed.{World, failures, held_after, is_honest_after}
use Rattle.rrd_disk.specs.Runs.{IsRecordOf, Recorded}
use Rattle.rrd_spec.specs.Journal.Survivors.{Stored}
use Rattle.rrd_store.specs.Commits.{AreCommitted, ComputesAll, HoldsOrNone}
use Rattle.rrd_store.specs.Runs as runs
use Rattle.rrd_store.specs.Storages.{Held}

-- ---- one call on an open file, in which the program was killed

-- the record has these calls before the run and those after it, and the run was killed: after the last one, or in it, and then
-- it is a call that failed. From each file for which the answers are honest, the run left what a kill may leave. Nothing is
-- assumed of what calls left that were not made. As for a run on a path, nothing is said of the text of a killed run
abbrev pub IsKilledOpenRun : List Event → List Event → runs.Run → Type 0
IsKilledOpenRun before after run =
    (w : World) → length w.parts ≤ failures after → IsTrue (is_honest_after w after) → IsSound w.start
    → IsTrue (is_honest_after w before) × IsSound (held_after w after)
    × runs.WasKilled (represented (held_after w before)) run (represented (held_after w after))

-- the calls between the two records opened the file, read it again or closed it, whether the program was killed meanwhile or
-- not: they changed nothing that the file represents
abbrev pub IsLeaving : List Event → List Event → Type 0
IsLeaving before after =
    (w : World) → length w.parts ≤ failures after → IsTrue (is_honest_after w after) → IsSound w.start
    → IsTrue (is_honest_after w before) × IsSound (held_after w after)
    × (represented (held_after w after) ≡ represented (held_after w before))

-- ---- a program that keeps the file open

-- what it did and came to the end of, and all calls on the file since it was opened
pub data Step : Type 0 where
  -- a run
  Ran : runs.Run → List Event → Step
  -- it read the file again
  Reread : List Event → Step

-- its end, and all calls on the file since it was opened
pub data End : Type 0 where
  -- it closed the file; or was killed as it closed the file, read it again or opened it
  Left : List Event → End
  -- it was killed in a run, or before the run made a call
  KilledIn : runs.Run → List Event → End

-- the calls that opened the file, the steps, the end, and what the calls left that failed
pub record Keeper : Type 0 where
  pub opened : List Event
  pub steps : List Step
  pub end : End
  pub parts : List ℕ

-- each step began with the record of the step before
abbrev pub AreSteps : List Event → List Step → Type 0
AreSteps before [] = ⊤
AreSteps before (Ran run events ∷ later) = IsOpenRun before events run × AreSteps events later
AreSteps before (Reread events ∷ later) = IsReload before events × AreSteps events later

-- the record after the steps
abbrev pub record_after : List Event → List Step → List Event
record_after before [] = before
record_after before (Ran run events ∷ later) = record_after events later
record_after before (Reread events ∷ later) = record_after events later

abbrev pub IsEnd : List Event → End → Type 0
IsEnd before (Left events) = IsLeaving before events
IsEnd before (KilledIn run events) = IsKilledOpenRun before events run

abbrev pub record_at : End → List Event
record_at (Left events) = events
record_at (KilledIn run events) = events

abbrev pub IsKeeper : Keeper → Type 0
IsKeeper k = IsOpened k.opened × AreSteps k.opened k.steps × IsEnd (record_after k.opened k.steps) k.end

-- its runs. Those that came to their end were acknowledged
abbrev pub steps_run : List Step → List runs.Event
steps_run [] = []
steps_run (Ran run events ∷ later) = runs.Ended run ∷ steps_run later
steps_run (Reread events ∷ later) = steps_run later

abbrev pub end_run : End → List runs.Event
end_run (Left events) = []
end_run (KilledIn run events) = runs.Killed run ∷ []

-- ---- programs

pub data Program : Type 0 where
  -- it ran once on the path of the file
  Runs : Recorded → Program
  -- it kept the file open
  Keeps : Keeper → Program

abbrev pub IsProgram : Program → Type 0
IsProgram (Runs r) = IsRecordOf r.events r.run
IsProgram (Keeps k) = IsKeeper k

abbrev pub ArePrograms : List Program → Type 0
ArePrograms [] = ⊤
ArePrograms (p ∷ later) = IsProgram p × ArePrograms later

-- all its calls on the file, and what those left that failed
abbrev pub record_of : Program → List Event
record_of (Runs r) = r.events
record_of (Keeps k) = record_at k.end

abbrev pub parts_of : Program → List ℕ
parts_of (Runs r) = r.parts
parts_of (Keeps k) = k.parts

abbrev pub runs_of : Program → List runs.Event
runs_of (Runs r) = r.run ∷ []
runs_of (Keeps k) = steps_run k.steps ++ end_run k.end

abbrev pub all_runs : List Program → List runs.Event
all_runs [] = []
all_runs (p ∷ later) = runs_of p ++ all_runs later

abbrev pub world_for : Held → Program → World
world_for start p = record { start = start; parts = parts_of p }

-- the file after a program
abbrev pub left_by : Held → Program → Held
left_by start p = held_after (world_for start p) (record_of p)

-- the records are those of one honest file that nobody else wrote: each program finds the file that the one before left
abbrev pub AreHonest : Held → List Program → Type 0
AreHonest start [] = ⊤
AreHonest start (p ∷ later) = IsTrue (is_honest_after (world_for start p) (record_of p)) × AreHonest (left_by start p) later

abbrev pub last_of : Held → List Program → Held
last_of start [] = start
last_of start (p ∷ later) = last_of (left_by start p) later

-- the main theorem, for programs that keep the file open too: all their runs that came to an end stand, and a run that was
-- killed leads to the state before it or the state after it
abbrev pub ProgramsFollowSpecification : Held → Option Stored → List Program → Type 0
ProgramsFollowSpecification start first programs =
    (is : runs.IsFirst start first) → ArePrograms programs → AreHonest start programs
    → (last : runs.Standing)
    × runs.LeadsAll (runs.Keeping (runs.first_of start first is)) (all_runs programs) last
    × runs.IsFileOf (represented (last_of start programs)) last

-- the same by the runs that committed: of all the runs, which were accepted, refused, failed or killed, those lead alone to what the
-- file stands for
abbrev pub CommittedRunsStand : Held → Option Stored → List Program → Type 0
CommittedRunsStand start first programs =
    (is : runs.IsFirst start first) → ArePrograms programs → AreHonest start programs
    → (committed : List runs.Run) × AreCommitted (all_runs programs) committed
    × (last : Option runs.Filing) × ComputesAll (runs.first_of start first is) committed last
    × HoldsOrNone (represented (last_of start programs)) last
