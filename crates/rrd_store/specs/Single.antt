-- Definition: the results of one command on a stored database (own).
use Rattle.std.specs.Prelude.{◌≡◌, ℕ, Bool, IsTrue, List, Option, Some, None, Result, Ok, Err, false, true, if◌then◌else◌}
use Rattle.std.specs.Io.KnownBytes.{Keeps}
use Rattle.rrd_file.specs.Layout.{layout}
use Rattle.rrd_spec.specs.Journal.Survivors.{Stored}
use Rattle.rrd_tool.specs.Commands.{effect}
use Rattle.rrd_tool.specs.Effects.{Effect, Makes, Changes, Reverts, Shows, is_change, text_on}
use Rattle.rrd_tool.specs.Lines.{is_empty}
use Rattle.rrd_tool.specs.Execution.{Executes, database_left, fault_left, has_changed}
use Rattle.rrd_tool.specs.Commands.Reading.{IsReading}
use Rattle.rrd_tool.specs.declared.commands.Command.{Command}
use Rattle.rrd_tool.specs.declared.execution.Outcome.{Outcome}
use Rattle.rrd_tool.specs.declared.faults.Fault.{Fault}
use Rattle.rrd_tool.specs.declared.faults.Fault.TheVariants.{Line, Output}
use Rattle.rrd_tool.specs.declared.faults.LineFault.{LineFault}
use Rattle.rrd_store.specs.Storages.{Finds, Held, Leaves, Stays}
use Rattle.rrd_store.specs.declared.faults.TaskFault.{TaskFault}
use Rattle.rrd_store.specs.declared.storage.Access.{Access}
use Rattle.rrd_store.specs.declared.storage.Access.TheVariants.{Read, ReadWrite}
use Rattle.rrd_store.specs.declared.faults.TaskFault.TheVariants as task

-- ---- the database before the command

-- a command that may change the database opens the storage for a change; a command that shows something opens the
-- storage for reading
abbrev pub access_for : Effect → Access
access_for effect = if is_change effect then ReadWrite else Read

-- a storage that does not exist cannot be opened
abbrev pub FindsOne : Option Held → Result (Option Stored) TaskFault → Type 0
FindsOne held (Ok None) = ⊥
FindsOne held (Ok (Some database)) = Finds held (Ok (Some database))
FindsOne held (Err fault) = Finds held (Err fault)

-- a command that makes a database starts without a database, whatever the storage has
abbrev pub StartsBy : Effect → Option Held → Result (Option Stored) TaskFault → Type 0
StartsBy (Makes spec) held start = start ≡ Ok None
StartsBy (Changes command) held start = FindsOne held start
StartsBy Reverts held start = FindsOne held start
StartsBy (Shows show) held start = FindsOne held start

abbrev pub StartsFrom : Command → Option Held → Result (Option Stored) TaskFault → Type 0
StartsFrom command held start = StartsBy (effect command) held start

-- ---- the contents of the storage after the command

-- after a refused command, and after a command that printed, the contents are unchanged; an accepted change is written.
-- Flushing the printed text, which is not empty, may fail
abbrev pub EndsBy : Option Fault → Bool → Option Stored → List ℕ → Option Held → Option Held
    → Result (Unit {0}) TaskFault → Type 0
EndsBy (Some fault) changed database text old new end = (end ≡ Err (task.Command fault)) × Stays old new
EndsBy None true database text old new end = Leaves database old new end
EndsBy None false database text old new (Ok x) = Stays old new
EndsBy None false database text old new (Err fault) =
    (fault ≡ task.Command Output) × (is_empty text ≡ false) × Stays old new

-- an outcome that printed this text
abbrev pub Ends : Outcome → List ℕ → Option Held → Option Held → Result (Unit {0}) TaskFault → Type 0
Ends outcome text old new end = EndsBy (fault_left outcome) (has_changed outcome) (database_left outcome) text old new end

-- glue: `Q` holds of the bytes of a database that was changed
abbrev pub HoldsOfChange : (List ℕ → Bool) → Outcome → Type 0
HoldsOfChange Q outcome = (database : Stored) → has_changed outcome ≡ true → database_left outcome ≡ Some database → IsTrue (Q (layout database))

-- ---- the whole command: `old` and `new` are the contents of the storage before and after, `c0` and `c1` the contents
-- of the output

-- the storage is not written, and nothing is printed
abbrev pub Stops : TaskFault → Option Held → Option Held → Option (List ℕ) → Option (List ℕ)
    → Result (Unit {0}) TaskFault → Type 0
Stops fault old new c0 c1 end = (end ≡ Err fault) × Stays old new × Keeps c0 c1

-- the command runs on the database that was found, and its result is written
abbrev pub RunsFrom : Command → Result (Option Stored) TaskFault → Option Held → Option Held
    → Option (List ℕ) → Option (List ℕ) → Result (Unit {0}) TaskFault → Type 0
RunsFrom command (Err fault) old new c0 c1 end = Stops fault old new c0 c1 end
RunsFrom command (Ok kept) old new c0 c1 end =
    (outcome : Outcome)
    × Executes kept command c0 c1 outcome
    × Ends outcome (text_on kept (effect command)) old new end

-- if the words are a command, the storage is read and the command runs
abbrev pub RunsAs : Result Command LineFault → Option Held → Option Held → Option (List ℕ)
    → Option (List ℕ) → Result (Unit {0}) TaskFault → Type 0
RunsAs (Err fault) old new c0 c1 end = Stops (task.Command (Line fault)) old new c0 c1 end
RunsAs (Ok command) old new c0 c1 end =
    (start : Result (Option Stored) TaskFault)
    × StartsFrom command old start
    × RunsFrom command start old new c0 c1 end

abbrev pub IsSingle : List (List ℕ) → ℕ → Option Held → Option Held → Option (List ℕ) → Option (List ℕ)
    → Result (Unit {0}) TaskFault → Type 0
IsSingle words now old new c0 c1 end =
    (read : Result Command LineFault) × IsReading words now read × RunsAs read old new c0 c1 end
