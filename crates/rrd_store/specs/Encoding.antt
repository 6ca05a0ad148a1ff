-- Glue: the bytes of a file that stay in memory beside the database.
use Rattle.std.specs.Prelude.{◌≡◌, ℕ, List, Option, Some, None, Result, Ok, Err, option_map, false, true, ⊤}
use Rattle.rrd_file.specs.Encoded.{Encodes, Precedes, bytes_in}
use Rattle.rrd_file.specs.declared.encoded.Encoded.{Encoded}
use Rattle.rrd_spec.specs.Journal.Survivors.{Stored}
use Rattle.rrd_tool.specs.Execution.{database_left, has_changed}
use Rattle.rrd_tool.specs.declared.changed_by.ChangedBy.{ChangedBy}
use Rattle.rrd_tool.specs.declared.changed_by.ChangedBy.TheVariants.{Nothing, Updates}
use Rattle.rrd_tool.specs.declared.execution.Outcome.{Outcome}
use Rattle.rrd_store.specs.Storages.{DiffersWithin, Held}
use Rattle.rrd_store.specs.declared.encoding.Changed.{Changed}
use Rattle.rrd_store.specs.declared.encoding.Changed.TheVariants.{Anywhere, Within}
use Rattle.rrd_store.specs.declared.encoding.Encoding.{Encoding}
use Rattle.rrd_store.specs.declared.faults.TaskFault.{TaskFault}
use Rattle.rrd_store.specs.declared.faults.TaskFault.TheVariants as task

-- the bytes are the file of the database, if there are both
abbrev pub AreOf : Option Encoded → Option Stored → Type 0
AreOf encoded database = (e : Encoded) (d : Stored) → encoded ≡ Some e → database ≡ Some d → Encodes e d

-- the bytes are the file of the database that there is
pub record IsOf (e : Encoded) (database : Option Stored) : Type 0 where
  pub here : Stored
  pub is : database ≡ Some here
  pub encodes : Encodes e here

-- the bytes are the file of the database from before what has changed it
pub record IsBefore (e : Encoded) (by : ChangedBy) (left : Option Stored) : Type 0 where
  pub same : by ≡ Nothing → IsOf e left
  pub updated : (count : ℕ) (now : Stored) → by ≡ Updates count → left ≡ Some now → Precedes e count now

-- the bytes are the file of the database from before a command
pub record IsBeforeCommand (e : Encoded) (by : ChangedBy) (outcome : Outcome) : Type 0 where
  pub same : has_changed outcome ≡ false → IsOf e (database_left outcome)
  pub changed : has_changed outcome ≡ true → IsBefore e by (database_left outcome)

-- the bytes may be written over these contents, where they say that they differ
abbrev pub DiffersBy : Changed → Option Held → List ℕ → Type 0
DiffersBy Anywhere held bytes = ⊤
DiffersBy (Within spans) held bytes = DiffersWithin spans.items held bytes

abbrev pub MayReplace : Option Held → Encoding → Type 0
MayReplace held e = DiffersBy e.changed held (bytes_in e.encoded)

abbrev pub encoded_in : Option Encoding → Option Encoded
encoded_in encoding = option_map (λ (e : Encoding). e.encoded) encoding

-- the bytes that stay in memory after a command: none, if the storage could not be written
abbrev pub encoded_by : Option Encoding → Result (Unit {0}) TaskFault → Option Encoded
encoded_by encoding (Ok x) = encoded_in encoding
encoded_by encoding (Err task.CannotWrite) = None
encoded_by encoding (Err task.CannotOpen) = encoded_in encoding
encoded_by encoding (Err (task.Command fault)) = encoded_in encoding
encoded_by encoding (Err (task.Stream fault)) = encoded_in encoding
encoded_by encoding (Err (task.File fault)) = encoded_in encoding
