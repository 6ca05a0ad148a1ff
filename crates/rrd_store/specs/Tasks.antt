-- Definition: the task of the program's arguments (own).
use Rattle.std.specs.Prelude.{[], ◌∷◌, ℕ, List, codes, if◌then◌else◌}
use Rattle.std.specs.Str.{bytes_eq}
use Rattle.rrd_tool.specs.Arguments.{begins_with_minus}
use Rattle.rrd_store.specs.declared.task.Task.{Task}
use Rattle.rrd_store.specs.declared.task.Task.TheVariants as task

-- no task of the program, or help; a batch without a file, or on the file of this name; or one command on a file, with
-- the command's words
pub data Asked : Type 0 where
  ForUsage : Asked
  ForBatch : Asked
  ForFileBatch : List ℕ → Asked
  ForCommand : List ℕ → List (List ℕ) → Asked

-- a file, if no word follows its name
abbrev pub asked_of_batch : List (List ℕ) → Asked
asked_of_batch [] = ForBatch
asked_of_batch (file ∷ []) = if begins_with_minus file then ForUsage else ForFileBatch file
asked_of_batch (file ∷ word ∷ words) = ForUsage

abbrev pub asked_of_command : List ℕ → List (List ℕ) → Asked
asked_of_command command [] = ForUsage
asked_of_command command (file ∷ words) =
    if begins_with_minus file then ForUsage else ForCommand file (command ∷ words)

-- the program's name is the first argument; without a command there is no task
abbrev pub asked : List (List ℕ) → Asked
asked [] = ForUsage
asked (name ∷ []) = ForUsage
asked (name ∷ command ∷ words) =
    if bytes_eq command (codes "batch") then asked_of_batch words else asked_of_command command words

-- the definition of a value of `Task`
abbrev pub told_by : Task → Asked
told_by task.Usage = ForUsage
told_by task.Batch = ForBatch
told_by (task.FileBatch file) = ForFileBatch file.now
told_by (task.Single file words) = ForCommand file.now words
