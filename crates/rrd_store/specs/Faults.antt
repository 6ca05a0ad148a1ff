-- Definition: the messages of the faults of tasks, and the report that is written for a fault (own).
use Rattle.std.specs.Prelude.{◌++◌, [], ℕ, Bool, List, codes, false, true, if◌then◌else◌}
use Rattle.rrd_file.specs.Faults.Texts.{file_fault_text}
use Rattle.rrd_tool.specs.Faults.{error_line, fault_text}
use Rattle.rrd_tool.specs.declared.batch.StreamFault.{StreamFault}
use Rattle.rrd_tool.specs.declared.batch.StreamFault.TheVariants as stream
use Rattle.rrd_tool.specs.declared.faults.Fault.{Fault}
use Rattle.rrd_tool.specs.declared.faults.Fault.TheVariants as fault
use Rattle.rrd_tool.specs.declared.faults.LineFault.{LineFault}
use Rattle.rrd_tool.specs.declared.faults.LineFault.TheVariants as line
use Rattle.rrd_store.specs.declared.faults.TaskFault.{TaskFault}
use Rattle.rrd_store.specs.declared.faults.TaskFault.TheVariants.{Command, Stream, File, CannotOpen, CannotWrite}

abbrev pub stream_text : StreamFault → List ℕ
stream_text stream.Write = codes "write failed"
stream_text stream.Read = codes "read failed"
stream_text stream.OutOfMemory = codes "out of memory"

abbrev pub task_fault_text : TaskFault → List ℕ
task_fault_text (Command fault) = fault_text fault
task_fault_text (Stream fault) = stream_text fault
task_fault_text (File fault) = file_fault_text fault
task_fault_text CannotOpen = codes "cannot open"
task_fault_text CannotWrite = codes "cannot write"

-- words that are not a command
abbrev pub is_usage_error_line : LineFault → Bool
is_usage_error_line line.Usage = true
is_usage_error_line (line.BadWord part number) = false
is_usage_error_line line.OutOfMemory = false

abbrev pub is_usage_error_command : Fault → Bool
is_usage_error_command (fault.Line f) = is_usage_error_line f
is_usage_error_command (fault.Refused refusal) = false
is_usage_error_command fault.NoDatabase = false
is_usage_error_command fault.Output = false

abbrev pub is_usage_error : TaskFault → Bool
is_usage_error (Command fault) = is_usage_error_command fault
is_usage_error (Stream fault) = false
is_usage_error (File fault) = false
is_usage_error CannotOpen = false
is_usage_error CannotWrite = false

-- the report of a fault: its line, and the usage text if the words are not a command
abbrev pub report_of : List ℕ → TaskFault → List ℕ
report_of usage fault = error_line (task_fault_text fault) ++ (if is_usage_error fault then usage else [])
