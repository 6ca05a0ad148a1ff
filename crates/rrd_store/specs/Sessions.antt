-- Definition: runs on a database that stays in memory, beside the storage that it was read from or written to.
use Rattle.std.specs.Prelude.{◌≡◌, ℕ, List, Option, Some, None, Result, Ok, Err, ⊤}
use Rattle.rrd_file.specs.Encoded.{bytes_in}
use Rattle.rrd_file.specs.declared.encoded.Encoded.{Encoded}
use Rattle.rrd_spec.specs.Journal.Survivors.{Stored}
use Rattle.rrd_tool.specs.Commands.{effect}
use Rattle.rrd_tool.specs.Commands.Reading.{IsReading}
use Rattle.rrd_tool.specs.Effects.{Effect, Makes, Changes, Reverts, Shows, text_on}
use Rattle.rrd_tool.specs.Execution.{Executes, database_left}
use Rattle.rrd_tool.specs.declared.commands.Command.{Command}
use Rattle.rrd_tool.specs.declared.execution.Outcome.{Outcome}
use Rattle.rrd_tool.specs.declared.faults.Fault.TheVariants.{Line}
use Rattle.rrd_tool.specs.declared.faults.LineFault.{LineFault}
use Rattle.rrd_store.specs.Batch.{RunsLines}
use Rattle.rrd_store.specs.Single.{Ends, Stops}
use Rattle.rrd_store.specs.Storages.{Bytes, Held, Reads}
use Rattle.rrd_store.specs.declared.stored_batch.FileBatchEnd.{FileBatchEnd}
use Rattle.rrd_store.specs.declared.faults.TaskFault.{TaskFault}
use Rattle.rrd_store.specs.declared.faults.TaskFault.TheVariants as task

-- if there is a database in memory, reading the storage gives this database
abbrev pub IsRead : Option Held → Option Stored → Type 0
IsRead held None = ⊤
IsRead held (Some database) = Reads held (Ok database)

-- the storage represents the bytes in memory, if there are any
abbrev pub HasBytes : Option Held → Option Encoded → Type 0
HasBytes None encoded = ⊤
HasBytes (Some held) None = ⊤
HasBytes (Some held) (Some e) = held ≡ Bytes (bytes_in e)

-- what is in memory is what the storage represents: reading it gives the database, and it has the bytes
pub record IsInMemory (held : Option Held) (database : Option Stored) (encoded : Option Encoded) : Type 0 where
  pub read : IsRead held database
  pub bytes : HasBytes held encoded

-- ---- one command on the database in memory

-- a command that makes a database starts without one
abbrev pub started : Effect → Stored → Option Stored
started (Makes spec) database = None
started (Changes command) database = Some database
started Reverts database = Some database
started (Shows show) database = Some database

-- the database that stays in memory while the command runs
abbrev pub beside : Effect → Stored → Option Stored
beside (Makes spec) database = Some database
beside (Changes command) database = None
beside Reverts database = None
beside (Shows show) database = None

-- the first of two databases that there is
abbrev pub first_there : Option Stored → Option Stored → Option Stored
first_there (Some database) other = Some database
first_there None other = other

-- the database that stays in memory after a command: the one that the command left; after a refused create, the one that was
-- beside it; none, if the storage could not be written
abbrev pub kept_by : Option Stored → Outcome → Result (Unit {0}) TaskFault → Option Stored
kept_by other outcome (Ok x) = first_there (database_left outcome) other
kept_by other outcome (Err task.CannotWrite) = None
kept_by other outcome (Err task.CannotOpen) = first_there (database_left outcome) other
kept_by other outcome (Err (task.Command fault)) = first_there (database_left outcome) other
kept_by other outcome (Err (task.Stream fault)) = first_there (database_left outcome) other
kept_by other outcome (Err (task.File fault)) = first_there (database_left outcome) other

-- the command runs on this database, of which the storage is not read, and its result is written; `kept` is the database
-- that stays in memory
abbrev pub RunsOn : Command → Stored → Option Stored → Option Held → Option Held → Option (List ℕ) → Option (List ℕ)
    → Result (Unit {0}) TaskFault → Type 0
RunsOn command database kept old new c0 c1 end =
    (outcome : Outcome)
    × Executes (started (effect command) database) command c0 c1 outcome
    × Ends outcome (text_on (started (effect command) database) (effect command)) old new end
    × (kept ≡ kept_by (beside (effect command) database) outcome end)

abbrev pub RunsReadOn : Result Command LineFault → Stored → Option Stored → Option Held → Option Held → Option (List ℕ)
    → Option (List ℕ) → Result (Unit {0}) TaskFault → Type 0
RunsReadOn (Err fault) database kept old new c0 c1 end =
    Stops (task.Command (Line fault)) old new c0 c1 end × (kept ≡ Some database)
RunsReadOn (Ok command) database kept old new c0 c1 end = RunsOn command database kept old new c0 c1 end

abbrev pub IsSingleOn : List (List ℕ) → ℕ → Stored → Option Stored → Option Held → Option Held → Option (List ℕ)
    → Option (List ℕ) → Result (Unit {0}) TaskFault → Type 0
IsSingleOn words now database kept old new c0 c1 end =
    (read : Result Command LineFault) × IsReading words now read × RunsReadOn read database kept old new c0 c1 end

-- ---- a batch on the database in memory

-- the database that a batch left, if it was written
abbrev pub kept_unless : Option TaskFault → Option Stored → Option Stored
kept_unless None database = database
kept_unless (Some fault) database = None

-- the lines were run on this database, if there is one; `kept` is the database that stays in memory
abbrev pub IsLinesOn : ℕ → ℕ → Option Stored → Option Stored → Option Held → Option Held → Option (List ℕ)
    → Option (List ℕ) → Option (List ℕ) → Option (List ℕ) → FileBatchEnd → Type 0
IsLinesOn now numbered database kept old new r0 r1 c0 c1 end =
    (lines : RunsLines now numbered database old new r0 r1 c0 c1 end) × (kept ≡ kept_unless end.unstored lines.last)

abbrev pub IsFileBatchOn : ℕ → ℕ → Stored → Option Stored → Option Held → Option Held → Option (List ℕ)
    → Option (List ℕ) → Option (List ℕ) → Option (List ℕ) → Result FileBatchEnd TaskFault → Type 0
IsFileBatchOn now numbered database kept old new r0 r1 c0 c1 (Ok end) =
    IsLinesOn now numbered (Some database) kept old new r0 r1 c0 c1 end
IsFileBatchOn now numbered database kept old new r0 r1 c0 c1 (Err fault) = ⊥
