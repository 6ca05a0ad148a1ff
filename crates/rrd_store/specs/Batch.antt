-- Definition: the results of a batch on a stored database (own).
use Rattle.std.specs.Prelude.{◌≡◌, ℕ, Bool, IsTrue, List, Option, Some, None, Result, Ok, Err}
use Rattle.std.specs.Io.KnownBytes.{Consumes, Keeps}
use Rattle.rrd_file.specs.Layout.{layout}
use Rattle.rrd_spec.specs.Journal.Survivors.{State, Stored}
use Rattle.rrd_tool.specs.Effects.{StandsFor}
use Rattle.rrd_tool.specs.Batch.{Counts, Tally}
use Rattle.rrd_tool.specs.Batch.Run.{RunOver}
use Rattle.rrd_store.specs.Storages.{Finds, Held, Leaves, Stays}
use Rattle.rrd_store.specs.declared.stored_batch.FileBatchEnd.{FileBatchEnd}
use Rattle.rrd_store.specs.declared.faults.TaskFault.{TaskFault}

-- glue: the lines were run, and the database that they left was written, if there is one
abbrev pub IsStored : Result FileBatchEnd TaskFault → Type 0
IsStored (Ok end) = end.unstored ≡ None
IsStored (Err fault) = ⊥

-- glue: `Q` holds of the bytes of the database that is left, if there is one
abbrev pub HoldsOfLeft : (List ℕ → Bool) → Option Stored → Type 0
HoldsOfLeft Q left = (database : Stored) → left ≡ Some database → IsTrue (Q (layout database))

-- the result of writing the database, by its fault
abbrev pub written : Option TaskFault → Result (Unit {0}) TaskFault
written None = Ok (tt {0})
written (Some fault) = Err fault

-- the lines were run on the database that was found: from each state that this database represents, the run leads to a
-- state that the final database represents. The final database is left in the storage. At most `numbered` numbers of
-- refused lines are kept
pub record RunsLines (now numbered : ℕ) (found : Option Stored) (old new : Option Held) (r0 r1 c0 c1 : Option (List ℕ))
    (end : FileBatchEnd) : Type 0 where
  pub last : Option Stored
  pub runs : (s0 : Option State) → StandsFor found s0
      → (seen : List ℕ) × Consumes r0 r1 seen
      × (s1 : Option State) × StandsFor last s1
      × (tally : Tally) × Counts numbered tally end.refused end.lines.items
      × RunOver now seen r1 s0 s1 tally c0 c1 end.stream
  pub left : Leaves last old new (written end.unstored)

-- `old` and `new` are the contents of the storage before and after, `r0` and `r1` the rest of the input, and `c0` and
-- `c1` the output
abbrev pub IsFileBatch : ℕ → ℕ → Option Held → Option Held → Option (List ℕ) → Option (List ℕ)
    → Option (List ℕ) → Option (List ℕ) → Result FileBatchEnd TaskFault → Type 0
IsFileBatch now numbered old new r0 r1 c0 c1 (Err fault) =
    Finds old (Err fault) × Stays old new × Keeps r0 r1 × Keeps c0 c1
IsFileBatch now numbered old new r0 r1 c0 c1 (Ok end) =
    (found : Option Stored) × Finds old (Ok found) × RunsLines now numbered found old new r0 r1 c0 c1 end
