-- Definition: the bytes and the text that the definitions compute of one run on a storage, and the bytes that a failed
-- write or a kill leaves. Law: after any list of runs on one file, the bytes of the file and all printed text are what
-- the definitions compute; and a file that was cut short stays as it is.
use Rattle.std.specs.Prelude.{◌≡◌, ◌≢◌, ◌⊎◌, ◌++◌, ◌∷◌, [], ℕ, List, Option, Some, None, Result, Ok, Err, false, length, if◌then◌else◌, option_map}
use Rattle.std.specs.Result.{result_err}
use Rattle.std.specs.Io.KnownBytes.{Appends, Consumes, Keeps}
use Rattle.rrd_file.specs.declared.fault.FileFault.{FileFault}
use Rattle.rrd_file.specs.declared.fault.FileFault.TheVariants.{Truncated}
use Rattle.rrd_file.specs.Faults.{IsAnswer, IsFile}
use Rattle.rrd_file.specs.Laws.{IsOfFile, IsValidIn}
use Rattle.rrd_file.specs.Layout.{layout_in}
use Rattle.rrd_spec.specs.Journal.Survivors.{State, Stored, Stands}
use Rattle.rrd_spec.specs.Limits.{newest}
use Rattle.rrd_spec.specs.declared.requests.create.CreateSpec.{CreateSpec}
use Rattle.rrd_spec.specs.declared.version.Version.{Version}
use Rattle.rrd_tool.specs.Batch.{Counts, Tally}
use Rattle.rrd_tool.specs.Batch.Run.{RunOver}
use Rattle.rrd_tool.specs.Commands.{effect}
use Rattle.rrd_tool.specs.Commands.Reading.{IsReading, reading}
use Rattle.rrd_tool.specs.Effects.{Effect, Makes, Changes, Reverts, Shows, is_change, stored_of, next, text_on, verdict_on}
use Rattle.rrd_tool.specs.Execution.{IsFault}
use Rattle.rrd_tool.specs.Lines.{is_empty}
use Rattle.rrd_tool.specs.declared.commands.Command.{Command}
use Rattle.rrd_tool.specs.declared.faults.Fault.{Fault}
use Rattle.rrd_tool.specs.declared.faults.Fault.TheVariants.{Line, NoDatabase, Output, Refused}
use Rattle.rrd_tool.specs.declared.faults.LineFault.{LineFault}
use Rattle.rrd_store.specs.Batch.{IsFileBatch}
use Rattle.rrd_store.specs.Storages.{Bytes, HasNone, Held, IsNoFile, Missing}
use Rattle.rrd_store.specs.Single.{IsSingle, RunsAs}
use Rattle.rrd_store.specs.declared.stored_batch.FileBatchEnd.{FileBatchEnd}
use Rattle.rrd_store.specs.declared.faults.TaskFault.{TaskFault}
use Rattle.rrd_store.specs.declared.faults.TaskFault.TheVariants as task

-- ---- runs, as seen from outside

-- one command: its words, the present time in seconds since 1970, the contents of the output before and after the
-- command, if known, and the end of the command
pub record CommandRun : Type 0 where
  pub words : List (List ℕ)
  pub now : ℕ
  pub out_before : Option (List ℕ)
  pub out_after : Option (List ℕ)
  pub end : Result (Unit {0}) TaskFault

-- one command that was not read from words: a program in C gave its numbers
pub record RequestRun : Type 0 where
  pub command : Command
  pub out_before : Option (List ℕ)
  pub out_after : Option (List ℕ)
  pub end : Result (Unit {0}) TaskFault

-- a batch: the present time, the maximum number of numbers of refused lines, the rest of the input before and after the
-- batch, the contents of the output before and after, and the end of the batch
pub record BatchRun : Type 0 where
  pub now : ℕ
  pub numbered : ℕ
  pub in_before : Option (List ℕ)
  pub in_after : Option (List ℕ)
  pub out_before : Option (List ℕ)
  pub out_after : Option (List ℕ)
  pub end : Result FileBatchEnd TaskFault

pub data Run : Type 0 where
  ByCommand : CommandRun → Run
  ByRequest : RequestRun → Run
  ByBatch : BatchRun → Run

abbrev pub command_run : List (List ℕ) → ℕ → Option (List ℕ) → Option (List ℕ) → Result (Unit {0}) TaskFault → Run
command_run words now c0 c1 end = ByCommand (record { words = words; now = now; out_before = c0; out_after = c1; end = end })

abbrev pub request_run : Command → Option (List ℕ) → Option (List ℕ) → Result (Unit {0}) TaskFault → Run
request_run command c0 c1 end = ByRequest (record { command = command; out_before = c0; out_after = c1; end = end })

abbrev pub batch_run : ℕ → ℕ → Option (List ℕ) → Option (List ℕ) → Option (List ℕ) → Option (List ℕ) → Result FileBatchEnd TaskFault → Run
batch_run now numbered r0 r1 c0 c1 end =
    ByBatch (record { now = now; numbered = numbered; in_before = r0; in_after = r1; out_before = c0; out_after = c1; end = end })

-- the run led from the old contents of the storage to the new contents: exactly as `run_file_command`,
-- `Session::run_command` or `run_file_batch` ensures
abbrev pub DidIn : Option Held → Run → Option Held → Type 0
DidIn old (ByCommand r) new = IsSingle r.words r.now old new r.out_before r.out_after r.end
DidIn old (ByRequest r) new = RunsAs (Ok r.command) old new r.out_before r.out_after r.end
DidIn old (ByBatch r) new = IsFileBatch r.now r.numbered old new r.in_before r.in_after r.out_before r.out_after r.end

-- the same for a file whose contents are known
abbrev pub Did : Held → Run → Held → Type 0
Did old run new = DidIn (Some old) run (Some new)

-- the fault of a run: a fault before the run touched the file, or a failed write of the file
abbrev pub fault_of_batch : Result FileBatchEnd TaskFault → Option TaskFault
fault_of_batch (Ok end) = end.unstored
fault_of_batch (Err fault) = Some fault

abbrev pub fault_of : Run → Option TaskFault
fault_of (ByCommand r) = result_err r.end
fault_of (ByRequest r) = result_err r.end
fault_of (ByBatch r) = fault_of_batch r.end

-- ---- the file of a state

-- the state in a file, and the version of its layout
pub record Filing : Type 0 where
  pub version : Version
  pub state : State

abbrev pub state_in : Option Filing → Option State
state_in kept = option_map (λ (k : Filing). k.state) kept

-- a state in the version in which states are written: the newest
abbrev pub as_written : Option State → Option Filing
as_written state = option_map (λ (s : State). let k : Filing = record { version = newest; state = s } in k) state

-- the database of a state has the content of the survivors, and the journal of those that can be reverted and of the
-- brought entries. This database represents the state, and is within the limits of the version
abbrev pub IsValidState : Version → State → Type 0
IsValidState version s = Stands s (stored_of s) × IsValidIn version (stored_of s)

-- the file has the layout of this database in its version; without a state there is no file. The version, the
-- survivors, the number of survivors that can be reverted, and the brought entries determine every byte of the file
abbrev pub Holds : Held → Option Filing → Type 0
Holds held None = held ≡ Missing
Holds held (Some k) = (held ≡ Bytes (layout_in k.version (stored_of k.state))) × IsValidState k.version k.state

-- these bytes are a first part of the file of this state, and not the whole file
abbrev pub IsFrontOf : List ℕ → Filing → Type 0
IsFrontOf front k =
    (next : ℕ) × (rest : List ℕ) × (layout_in k.version (stored_of k.state) ≡ front ++ next ∷ rest)

-- ---- the state that a file represents

-- the state in the file, or no state if there is no file; or bytes that are not a database
pub data Standing : Type 0 where
  Keeping : Option Filing → Standing
  Damaged : List ℕ → Standing

abbrev pub IsFileOf : Held → Standing → Type 0
IsFileOf held (Keeping s) = Holds held s
IsFileOf held (Damaged bytes) = (held ≡ Bytes bytes) × IsNoFile bytes

-- ---- the results of a run that the definitions allow: the next state and its version, the printed text, and the end
-- of the run

-- the reasons why the file of a state may not be read. The bytes of a database are never at fault, so the reader failed
-- or memory ran out; without a database there is no file; and any file may fail to open
abbrev pub IsUnread : Option Filing → FileFault → Type 0
IsUnread None fault = ⊥
IsUnread (Some s) fault = ¬ IsOfFile (Err fault)

abbrev pub MayStop : Option Filing → TaskFault → Type 0
MayStop state (task.File fault) = IsUnread state fault
MayStop state task.CannotOpen = Unit {0}
MayStop state task.CannotWrite = ⊥
MayStop state (task.Command fault) = ⊥
MayStop state (task.Stream fault) = ⊥

-- a command that makes a database does not read the file
abbrev pub ReadsFile : Effect → Type 0
ReadsFile (Makes spec) = ⊥
ReadsFile (Changes command) = Unit {0}
ReadsFile Reverts = Unit {0}
ReadsFile (Shows show) = Unit {0}

-- the state stays the same, and nothing is printed
abbrev pub IsNothing : Option Filing → Option Filing → Option (List ℕ) → Option (List ℕ) → Type 0
IsNothing s s1 c0 c1 = (s1 ≡ s) × Keeps c0 c1

-- a first part of the text was printed, or all of the text
abbrev pub PrintsFront : Option (List ℕ) → Option (List ℕ) → List ℕ → Type 0
PrintsFront c0 c1 text = (front : List ℕ) × (unwritten : List ℕ) × (text ≡ front ++ unwritten) × Appends c0 c1 front

-- the database of the state in a file
abbrev pub database_in : Option Filing → Option Stored
database_in kept = option_map stored_of (state_in kept)

-- the next state, and its version: a change writes the file in the newest version; any other command leaves the state
-- and its version unchanged
abbrev pub kept_next : Option Filing → Effect → Option Filing
kept_next s e = if is_change e then as_written (next (state_in s) e) else s

-- the command is accepted, and leads to the next state
abbrev pub IsDone : Option Filing → Effect → Option Filing → Type 0
IsDone s e s1 = (verdict_on (database_in s) e ≡ None) × (s1 ≡ kept_next s e)

-- the verdict refuses the command, or accepts the command and memory runs out
abbrev pub IsRefused : Option Filing → Effect → Fault → Option Filing → Option (List ℕ) → Option (List ℕ) → Type 0
IsRefused s e fault s1 c0 c1 = IsFault (verdict_on (database_in s) e) e fault × IsNothing s s1 c0 c1

-- a command of this effect ends with a fault of its own. If its output failed, the command was done, and is a command
-- that prints something
abbrev pub Fails : Option Filing → Effect → Fault → Option Filing → Option (List ℕ) → Option (List ℕ) → Type 0
Fails s e Output s1 c0 c1 =
    IsDone s e s1 × PrintsFront c0 c1 (text_on (database_in s) e) × (is_empty (text_on (database_in s) e) ≡ false)
Fails s e (Refused refusal) s1 c0 c1 = IsRefused s e (Refused refusal) s1 c0 c1
Fails s e NoDatabase s1 c0 c1 = IsRefused s e NoDatabase s1 c0 c1
Fails s e (Line fault) s1 c0 c1 = IsRefused s e (Line fault) s1 c0 c1

-- a command of this effect ends with a fault of the file
abbrev pub Stops : Option Filing → Effect → TaskFault → Option Filing → Option (List ℕ) → Option (List ℕ) → Type 0
Stops s e fault s1 c0 c1 = ReadsFile e × MayStop s fault × IsNothing s s1 c0 c1

-- a command of this effect, for each of its ends. If the file could not be written, the command was done too
abbrev pub Answers : Option Filing → Effect → Option Filing → Option (List ℕ) → Option (List ℕ)
    → Result (Unit {0}) TaskFault → Type 0
Answers s e s1 c0 c1 (Ok x) = IsDone s e s1 × Appends c0 c1 (text_on (database_in s) e)
Answers s e s1 c0 c1 (Err (task.Command fault)) = Fails s e fault s1 c0 c1
Answers s e s1 c0 c1 (Err (task.File fault)) = Stops s e (task.File fault) s1 c0 c1
Answers s e s1 c0 c1 (Err task.CannotOpen) = Stops s e task.CannotOpen s1 c0 c1
Answers s e s1 c0 c1 (Err task.CannotWrite) = IsDone s e s1 × Appends c0 c1 (text_on (database_in s) e)
Answers s e s1 c0 c1 (Err (task.Stream fault)) = ⊥

-- the result of the reading of the words; words that are not a command change nothing
abbrev pub AnswersRead : Option Filing → Result Command LineFault → Option Filing → Option (List ℕ) → Option (List ℕ)
    → Result (Unit {0}) TaskFault → Type 0
AnswersRead s (Ok command) s1 c0 c1 end = Answers s (effect command) s1 c0 c1 end
AnswersRead s (Err fault) s1 c0 c1 end = (end ≡ Err (task.Command (Line fault))) × IsNothing s s1 c0 c1

-- the run over the lines that were read, after which the file is written; or the file could not be read, and no line
-- was read
abbrev pub AnswersLines : ℕ → ℕ → Option Filing → Option Filing → Option (List ℕ) → Option (List ℕ) → Option (List ℕ)
    → Option (List ℕ) → Result FileBatchEnd TaskFault → Type 0
AnswersLines now numbered s s1 r0 r1 c0 c1 (Ok end) =
    (seen : List ℕ) × Consumes r0 r1 seen × (last : Option State)
    × (tally : Tally) × Counts numbered tally end.refused end.lines.items
    × RunOver now seen r1 (state_in s) last tally c0 c1 end.stream × (s1 ≡ as_written last)
AnswersLines now numbered s s1 r0 r1 c0 c1 (Err fault) = MayStop s fault × IsNothing s s1 c0 c1 × Keeps r0 r1

-- the run leads from the state `s` to the state `s1`
abbrev pub Computes : Option Filing → Run → Option Filing → Type 0
Computes s (ByCommand r) s1 =
    (read : Result Command LineFault)
    × IsReading r.words r.now read
    × AnswersRead s read s1 r.out_before r.out_after r.end
Computes s (ByRequest r) s1 = Answers s (effect r.command) s1 r.out_before r.out_after r.end
Computes s (ByBatch r) s1 = AnswersLines r.now r.numbered s s1 r.in_before r.in_after r.out_before r.out_after r.end

-- the output stays the same
abbrev pub OutputStays : Run → Type 0
OutputStays (ByCommand r) = Keeps r.out_before r.out_after
OutputStays (ByRequest r) = Keeps r.out_before r.out_after
OutputStays (ByBatch r) = Keeps r.out_before r.out_after

-- ---- the state that a file represents after a run

-- the file represents no database
abbrev pub KeepsNone : Standing → Type 0
KeepsNone (Keeping None) = Unit {0}
KeepsNone (Keeping (Some k)) = ⊥
KeepsNone (Damaged bytes) = Unit {0}

-- after a failed write of the file, the file represents the same as before, or the new state; or, if there was no
-- database, bytes that are not a database
abbrev pub IsAfterFailure : Standing → Option Filing → Standing → Type 0
IsAfterFailure t s1 t1 =
    (t1 ≡ t) ⊎ ((t1 ≡ Keeping s1) ⊎ (KeepsNone t × (bytes : List ℕ) × (t1 ≡ Damaged bytes)))

-- after a run that led from `t` to the state `s1`, by the fault with which the run ended
abbrev pub StandsBy : Standing → Option Filing → Option TaskFault → Standing → Type 0
StandsBy t s1 None t1 = t1 ≡ Keeping s1
StandsBy t s1 (Some task.CannotWrite) t1 = IsAfterFailure t s1 t1
StandsBy t s1 (Some task.CannotOpen) t1 = t1 ≡ t
StandsBy t s1 (Some (task.File fault)) t1 = t1 ≡ t
StandsBy t s1 (Some (task.Command fault)) t1 = t1 ≡ t
StandsBy t s1 (Some (task.Stream fault)) t1 = t1 ≡ t

-- the command, or the words, make a database
abbrev pub IsCreate : Run → Type 0
IsCreate (ByCommand r) =
    (command : Command) × (reading r.words r.now ≡ Some (Ok command))
    × (spec : CreateSpec) × (effect command ≡ Makes spec)
IsCreate (ByRequest r) = (spec : CreateSpec) × (effect r.command ≡ Makes spec)
IsCreate (ByBatch r) = ⊥

-- the fault of a run on bytes that are not a database: a fault of the file for which `Is` holds, unless the file could
-- not be opened or the words are not a command
abbrev pub IsRefusedBy : (FileFault → Type 0) → TaskFault → Type 0
IsRefusedBy Is (task.File fault) = Is fault
IsRefusedBy Is task.CannotOpen = Unit {0}
IsRefusedBy Is (task.Command (Line fault)) = Unit {0}
IsRefusedBy Is (task.Command (Refused fault)) = ⊥
IsRefusedBy Is (task.Command NoDatabase) = ⊥
IsRefusedBy Is (task.Command Output) = ⊥
IsRefusedBy Is task.CannotWrite = ⊥
IsRefusedBy Is (task.Stream fault) = ⊥

-- the fault of these bytes
abbrev pub IsOfBytes : List ℕ → TaskFault → Type 0
IsOfBytes bytes fault = IsRefusedBy (λ f. IsAnswer bytes (Err f)) fault

-- the run printed nothing, and ended with this fault
abbrev pub IsRefusedOver : List ℕ → Run → Type 0
IsRefusedOver bytes run =
    OutputStays run × (fault : TaskFault) × (fault_of run ≡ Some fault) × IsOfBytes bytes fault

-- the run leads from the represented state to a state that the definitions allow, and prints their text. On bytes that
-- are not a database a create continues as without a file, because a create reads no database; any other run is refused
abbrev pub Leads : Standing → Run → Standing → Type 0
Leads (Keeping s) run t1 = (s1 : Option Filing) × Computes s run s1 × StandsBy (Keeping s) s1 (fault_of run) t1
Leads (Damaged bytes) run t1 =
    (IsCreate run × (s1 : Option Filing) × Computes None run s1 × StandsBy (Damaged bytes) s1 (fault_of run) t1)
    ⊎ ((¬ IsCreate run) × IsRefusedOver bytes run × (t1 ≡ Damaged bytes))

-- ---- runs and kills

-- a run that ended, or a run that was killed before its end. The definitions say nothing about the text that a killed
-- run printed
pub data Event : Type 0 where
  Ended : Run → Event
  Killed : Run → Event

-- a kill leaves the contents from before the run; or the contents that the run leaves if it ends; or, if there was no
-- database, bytes that are not a database
abbrev pub WasKilled : Held → Run → Held → Type 0
WasKilled old run new =
    (new ≡ old) ⊎ (Did old run new ⊎ (HasNone old × (bytes : List ℕ) × (new ≡ Bytes bytes) × IsNoFile bytes))

abbrev pub Happened : Held → Event → Held → Type 0
Happened old (Ended run) new = Did old run new
Happened old (Killed run) new = WasKilled old run new

-- the events follow one another, and nobody else writes the file in between
abbrev pub HappenedAll : Held → List Event → Held → Type 0
HappenedAll old [] new = new ≡ old
HappenedAll old (event ∷ events) new =
    (between : Held) × Happened old event between × HappenedAll between events new

-- the state before the run, or the state after the run; or, if there was no database, no database
abbrev pub LeadsKilled : Standing → Run → Standing → Type 0
LeadsKilled t run t1 = (t1 ≡ t) ⊎ (Leads t run t1 ⊎ (KeepsNone t × (bytes : List ℕ) × (t1 ≡ Damaged bytes)))

abbrev pub LeadsBy : Standing → Event → Standing → Type 0
LeadsBy t (Ended run) t1 = Leads t run t1
LeadsBy t (Killed run) t1 = LeadsKilled t run t1

abbrev pub LeadsAll : Standing → List Event → Standing → Type 0
LeadsAll t [] t1 = t1 ≡ t
LeadsAll t (event ∷ events) t1 = (between : Standing) × LeadsBy t event between × LeadsAll between events t1

-- the storage could not be opened, or has no database that can be read
abbrev pub IsOfPlace : TaskFault → Type 0
IsOfPlace task.CannotOpen = Unit {0}
IsOfPlace (task.File fault) = Unit {0}
IsOfPlace task.CannotWrite = ⊥
IsOfPlace (task.Command fault) = ⊥
IsOfPlace (task.Stream fault) = ⊥

-- ---- the theorems

-- a run on a file leads from the represented state to a state that the definitions compute, and prints their text, even
-- if the file could not be written; a killed run leads to the state before the run or after it
abbrev pub RunIsComputed : Held → Standing → Event → Held → Type 0
RunIsComputed old t event new =
    IsFileOf old t → Happened old event new → (t1 : Standing) × LeadsBy t event t1 × IsFileOf new t1

-- the first file: none, or the file of a valid database, in any version
abbrev pub IsFirst : Held → Option Stored → Type 0
IsFirst held None = held ≡ Missing
IsFirst held (Some d) = (bytes : List ℕ) × (held ≡ Bytes bytes) × IsFile bytes d

-- the content of the database is the base, its journal is brought, and no command survives yet
abbrev pub begun : Stored → State
begun d = record { base = d.content; brought = d.journal; survivors = []; revertible = 0 }

abbrev pub first_of : (held : Held) (first : Option Stored) → IsFirst held first → Option Filing
first_of held None is = None
first_of held (Some d) is = Some (record { version = is.2.version; state = begun d })

-- the main theorem. Take any list of runs, batches and single commands, with any lack of memory, with failed writes and
-- kills. The file then has the bytes, and the outputs have the texts, that the definitions compute from the first file
abbrev pub RunsFollowSpecification : Held → Option Stored → List Event → Held → Type 0
RunsFollowSpecification old first events new =
    (is : IsFirst old first) → HappenedAll old events new
    → (last : Standing) × LeadsAll (Keeping (first_of old first is)) events last × IsFileOf new last

-- a run that ends with a fault of the command or of the file, other than a failed write of the file, leaves the
-- contents of the file unchanged, whatever they are. The run printed nothing, unless its output failed
abbrev pub FaultChangesNothing : Held → Run → TaskFault → Held → Type 0
FaultChangesNothing old run fault new =
    Did old run new → fault_of run ≡ Some fault → fault ≢ task.CannotWrite
    → (new ≡ old) × (fault ≢ task.Command Output → OutputStays run)

-- the file ends after `at` bytes, if the file could be read to its end
abbrev pub IsOfBreak : ℕ → TaskFault → Type 0
IsOfBreak at fault = IsRefusedBy (λ f. IsOfFile (Err f) → f ≡ Truncated at) fault

-- a file that was cut short stays unchanged, and each run on it except a create is refused and prints nothing
abbrev pub DamagedFileStays : List ℕ → Filing → Run → Held → Type 0
DamagedFileStays front k run new =
    IsFrontOf front k → IsValidState k.version k.state → ¬ IsCreate run → Did (Bytes front) run new
    → (new ≡ Bytes front) × OutputStays run
    × (fault : TaskFault) × (fault_of run ≡ Some fault) × IsOfBreak (length front) fault
