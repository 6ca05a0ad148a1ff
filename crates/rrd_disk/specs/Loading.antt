-- Glue: what reading a file gives.
use Rattle.std.specs.Prelude.{◌≡◌, ◌≤◌, length, Bool, false, IsTrue, List, ℕ, Some, None, Result, Ok, Err, true, ⊤}
use Rattle.rrd_change.specs.Found.{database_of}
use Rattle.rrd_change.specs.Marks.{IsMarkOf}
use Rattle.rrd_change.specs.Settled.{unmarked}
use Rattle.rrd_file.specs.End.{file_end}
use Rattle.rrd_disk.specs.Contents.{StandFor}
use Rattle.rrd_disk.specs.Events.{Event}
use Rattle.rrd_disk.specs.Replayed.{World, bytes_after, is_honest_after}
use Rattle.rrd_disk.specs.declared.loading.Standing.{Standing}
use Rattle.rrd_file.specs.Faults.{IsFile}
use Rattle.rrd_file.specs.declared.fault.FileFault.{FileFault}
use Rattle.rrd_file.specs.declared.fault.FileFault.TheVariants.{Truncated, Read, OutOfMemory}
use Rattle.rrd_spec.specs.Journal.Survivors.{Stored}
use Rattle.rrd_store.specs.Storages.{Bytes, Decodes}
use Rattle.rrd_store.specs.declared.faults.TaskFault.{TaskFault}
use Rattle.rrd_store.specs.declared.faults.TaskFault.TheVariants.{Command, Stream, File, CannotOpen, CannotWrite}

-- the database of the file, or its fault
abbrev pub ReadsFile : List Event → Result Stored TaskFault → Type 0
ReadsFile events result = (s : World) → IsTrue (is_honest_after s events) → Decodes (Some (Bytes (bytes_after s events))) result

-- a fault that the bytes have, whatever bytes follow them
abbrev pub IsJudgedFault : FileFault → Type 0
IsJudgedFault (Truncated at) = ⊥
IsJudgedFault fault = ⊤

abbrev pub IsJudged : Result Stored TaskFault → Type 0
IsJudged (Ok database) = ⊥
IsJudged (Err (File fault)) = IsJudgedFault fault
IsJudged (Err CannotOpen) = ⊥
IsJudged (Err CannotWrite) = ⊥
IsJudged (Err (Command fault)) = ⊥
IsJudged (Err (Stream fault)) = ⊥

-- a fault of the bytes, and not of reading them
abbrev pub is_fault_of_bytes : FileFault → Bool
is_fault_of_bytes Read = false
is_fault_of_bytes OutOfMemory = false
is_fault_of_bytes fault = true

abbrev pub is_of_bytes : TaskFault → Bool
is_of_bytes (File fault) = is_fault_of_bytes fault
is_of_bytes CannotOpen = false
is_of_bytes CannotWrite = false
is_of_bytes (Command fault) = false
is_of_bytes (Stream fault) = false

-- a fault that reading any bytes may have
pub record IsOfAny (fault : TaskFault) : Type 0 where
  pub known : (bytes : List ℕ) → Decodes (Some (Bytes bytes)) (Err fault)
  pub unknown : Decodes None (Err fault)

-- these bytes were found in a file with a mark, and a database was read from them. If a change of a database has left the file,
-- they are that database
pub record IsStandingIn (standing : Standing) (events : List Event) : Type 0 where
  pub file : IsFile (database_of standing.found) standing.database
  pub valid : Decodes None (Ok standing.database)
  pub mark : (s : World) → IsTrue (is_honest_after s events) → IsMarkOf standing.found.mark (bytes_after s events)
  pub database : (s : World) → IsTrue (is_honest_after s events) → (now : List ℕ) → StandFor now (bytes_after s events) → database_of standing.found ≡ now

-- why none was found in a file with a mark. That is not so of a file that a change of a database has left, unless a read failed
pub record IsFaultIn (fault : TaskFault) (events : List Event) : Type 0 where
  pub valid : Decodes None (Err fault)
  pub known : (s : World) → IsTrue (is_honest_after s events) → (now : List ℕ) → StandFor now (bytes_after s events) → Decodes (Some (Bytes now)) (Err fault)

-- the first bytes of a file with a cut mark have a fault with the mark of a database, and no database ends among them
pub record IsForged (front : List ℕ) : Type 0 where
  pub ends : length (unmarked front) ≤ file_end (unmarked front)
  pub fault : TaskFault
  pub of_bytes : is_of_bytes fault ≡ true
  pub judged : IsJudged (Err fault)
  pub known : Decodes (Some (Bytes (unmarked front))) (Err fault)

-- no change of a database has left the file
abbrev pub HasNoChange : List Event → Type 0
HasNoChange events = (s : World) → IsTrue (is_honest_after s events) → (now : List ℕ) → StandFor now (bytes_after s events) → ⊥
