-- Definition: the runs of a list that committed, where others were refused, failed or were killed (own). Law: the definitions compute
-- the last state from the first by these alone.
use Rattle.std.specs.Prelude.{◌≡◌, ◌⊎◌, List, [], ◌∷◌, Option, Some, None}
use Rattle.rrd_store.specs.Runs.{Computes, Damaged, Ended, Event, Filing, Holds, Keeping, Killed, LeadsAll, Run, Standing, fault_of}
use Rattle.rrd_store.specs.Storages.{HasNone, Held}
use Rattle.rrd_store.specs.declared.faults.TaskFault.{TaskFault}
use Rattle.rrd_store.specs.declared.faults.TaskFault.TheVariants.{Command, Stream, File, CannotOpen, CannotWrite}

-- ---- one run

-- a run that ended so committed, or may have: if the file could not be written, nobody knows
abbrev pub MayCommit : Option TaskFault → Type 0
MayCommit None = Unit {0}
MayCommit (Some CannotWrite) = Unit {0}
MayCommit (Some CannotOpen) = ⊥
MayCommit (Some (File fault)) = ⊥
MayCommit (Some (Command fault)) = ⊥
MayCommit (Some (Stream fault)) = ⊥

-- it may not have: a run that ended well committed
abbrev pub MayNotCommit : Option TaskFault → Type 0
MayNotCommit None = ⊥
MayNotCommit (Some fault) = Unit {0}

-- of a run that was killed nobody knows
abbrev pub MayBeIn : Event → Type 0
MayBeIn (Ended run) = MayCommit (fault_of run)
MayBeIn (Killed run) = Unit {0}

abbrev pub MayBeOut : Event → Type 0
MayBeOut (Ended run) = MayNotCommit (fault_of run)
MayBeOut (Killed run) = Unit {0}

abbrev pub run_of : Event → Run
run_of (Ended run) = run
run_of (Killed run) = run

-- ---- a list of runs

-- these of them committed, in their order
abbrev pub AreCommitted : List Event → List Run → Type 0
AreCommitted [] committed = committed ≡ []
AreCommitted (event ∷ later) committed =
    (MayBeOut event × AreCommitted later committed)
    ⊎ (MayBeIn event × (rest : List Run) × (committed ≡ run_of event ∷ rest) × AreCommitted later rest)

-- the definitions compute the state `s1` from the state `s` by these runs, one after another
abbrev pub ComputesAll : Option Filing → List Run → Option Filing → Type 0
ComputesAll s [] s1 = s1 ≡ s
ComputesAll s (run ∷ later) s1 = (between : Option Filing) × Computes s run between × ComputesAll between later s1

-- the state, if there is a database
abbrev pub state_of : Standing → Option Filing
state_of (Keeping s) = s
state_of (Damaged bytes) = None

-- a file has the layout of the state; or, without a state, no database
abbrev pub HoldsOrNone : Held → Option Filing → Type 0
HoldsOrNone held (Some k) = Holds held (Some k)
HoldsOrNone held None = HasNone held

-- ---- the law

abbrev pub CommittedAlone : Standing → List Event → Standing → Type 0
CommittedAlone t events t1 =
    LeadsAll t events t1 → (committed : List Run) × AreCommitted events committed × ComputesAll (state_of t) committed (state_of t1)
