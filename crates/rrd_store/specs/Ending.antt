-- Definition: the text that the program prints on standard error, and the status of the program (own).
use Rattle.std.specs.Prelude.{◌==◌, ◌++◌, [], ℕ, List, Option, Some, None, Result, Ok, Err, if◌then◌else◌}
use Rattle.rrd_fixed.specs.Written.{Writes}
use Rattle.rrd_fixed.specs.declared.streams.WriteFault.{WriteFault}
use Rattle.rrd_tool.specs.declared.batch.StreamFault.{StreamFault}
use Rattle.rrd_store.specs.Faults.{is_usage_error, report_of}
use Rattle.rrd_store.specs.declared.stored_batch.FileBatchEnd.{FileBatchEnd}
use Rattle.rrd_store.specs.declared.faults.TaskFault.{TaskFault}
use Rattle.rrd_store.specs.declared.faults.TaskFault.TheVariants.{Stream}

-- the text was written or, if writing failed, a first part of the text
abbrev pub Tells : Option (List ℕ) → Option (List ℕ) → List ℕ → Type 0
Tells old new text = (end : Result (Unit {0}) WriteFault) × Writes old new text end

-- ---- one command

abbrev pub report_if : List ℕ → Option TaskFault → List ℕ
report_if usage None = []
report_if usage (Some fault) = report_of usage fault

-- 2 if the words are not a command, 1 after any other fault
abbrev pub single_status : Result (Unit {0}) TaskFault → ℕ
single_status (Ok x) = 0
single_status (Err fault) = if is_usage_error fault then 2 else 1

-- ---- a batch

-- the stream that failed, and then the reason why the database is not in its file
abbrev pub batch_report : List ℕ → Option StreamFault → Option TaskFault → List ℕ
batch_report usage None unstored = report_if usage unstored
batch_report usage (Some fault) unstored = report_of usage (Stream fault) ++ report_if usage unstored

-- 0 if no line was refused and nothing failed
abbrev pub batch_status : ℕ → Option StreamFault → Option TaskFault → ℕ
batch_status refused None None = if refused == 0 then 0 else 1
batch_status refused None (Some fault) = 1
batch_status refused (Some fault) unstored = 1

-- ---- a batch on a file: its end, or the fault of the file

abbrev pub file_batch_report : List ℕ → Result FileBatchEnd TaskFault → List ℕ
file_batch_report usage (Ok end) = batch_report usage end.stream end.unstored
file_batch_report usage (Err fault) = report_of usage fault

abbrev pub file_batch_status : Result FileBatchEnd TaskFault → ℕ
file_batch_status (Ok end) = batch_status end.refused end.stream end.unstored
file_batch_status (Err fault) = single_status (Err fault)
