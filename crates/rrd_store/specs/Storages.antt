-- Definition: the bytes that a storage keeps, the result of reading the storage, and the bytes that a change leaves.
use Rattle.std.specs.Prelude.{◌≡◌, ◌⊎◌, ℕ, List, Option, Some, None, Result, Ok, Err, ⊤}
use Rattle.rrd_file.specs.Faults.{IsAnswer, IsFile}
use Rattle.rrd_file.specs.Laws.{IsValidStored}
use Rattle.rrd_file.specs.Layout.{layout}
use Rattle.rrd_file.specs.Spans.{AgreesOutside}
use Rattle.rrd_file.specs.declared.fault.FileFault.{FileFault}
use Rattle.rrd_file.specs.declared.span.Span.{Span}
use Rattle.rrd_spec.specs.Journal.Survivors.{Stored}
use Rattle.rrd_store.specs.declared.faults.TaskFault.{TaskFault}
use Rattle.rrd_store.specs.declared.faults.TaskFault.TheVariants.{Command, Stream, File, CannotOpen, CannotWrite}

-- the bytes that a storage represents, and that the next load reads: the storage does not exist, or has these bytes,
-- possibly none
pub data Held : Type 0 where
  Missing : Held
  Bytes : List ℕ → Held

-- ---- the calls of a storage, by its contents if these are known

-- the contents stay the same
abbrev pub Stays : Option Held → Option Held → Type 0
Stays None new = ⊤
Stays (Some old) None = ⊥
Stays (Some old) (Some new) = new ≡ old

-- the contents are now these bytes
abbrev pub Becomes : Option Held → Option Held → List ℕ → Type 0
Becomes None new bytes = ⊤
Becomes (Some old) new bytes = new ≡ Some (Bytes bytes)

-- these bytes are the file of a database
abbrev pub IsAnyFile : List ℕ → Type 0
IsAnyFile bytes = (d : Stored) × IsFile bytes d

-- these bytes are not the file of any database
abbrev pub IsNoFile : List ℕ → Type 0
IsNoFile bytes = (d : Stored) → ¬ IsFile bytes d

-- there is no file, or the file is not a database
abbrev pub HasNone : Held → Type 0
HasNone Missing = Unit {0}
HasNone (Bytes bytes) = IsNoFile bytes

-- there was no database, and the contents are now bytes that are not a database
abbrev pub IsSpoilt : Option Held → Option Held → Type 0
IsSpoilt None new = ⊤
IsSpoilt (Some old) new = HasNone old × (bytes : List ℕ) × (new ≡ Some (Bytes bytes)) × IsNoFile bytes

-- after a failed write of these bytes, the contents are the same as before, or these bytes; or, if there was no
-- database, bytes that are not a database
abbrev pub IsAfterFailure : Option Held → Option Held → List ℕ → Type 0
IsAfterFailure old new bytes = Stays old new ⊎ (Becomes old new bytes ⊎ IsSpoilt old new)

-- the contents, if they are known, are the file of a database, which differs from these bytes within the spans alone
abbrev pub DiffersWithin : List Span → Option Held → List ℕ → Type 0
DiffersWithin changed None bytes = ⊤
DiffersWithin changed (Some Missing) bytes = ⊥
DiffersWithin changed (Some (Bytes old)) bytes = IsAnyFile old × AgreesOutside changed old bytes

-- ---- the result of reading

-- the result of reading: for known bytes, their result; if the contents are not known, a database in the result is
-- valid
abbrev pub Reads : Option Held → Result Stored FileFault → Type 0
Reads (Some Missing) answer = ⊥
Reads (Some (Bytes bytes)) answer = IsAnswer bytes answer
Reads None (Ok database) = IsValidStored database
Reads None (Err fault) = ⊤

-- the storage does not exist, as far as is known
abbrev pub MayMiss : Option Held → Type 0
MayMiss None = ⊤
MayMiss (Some Missing) = ⊤
MayMiss (Some (Bytes bytes)) = ⊥

-- no database only if the storage does not exist; otherwise the database whose file the bytes are, or the fault of the
-- bytes
abbrev pub Finds : Option Held → Result (Option Stored) TaskFault → Type 0
Finds held (Ok None) = MayMiss held
Finds held (Ok (Some database)) = Reads held (Ok database)
Finds held (Err (File fault)) = Reads held (Err fault)
Finds held (Err CannotOpen) = ⊤
Finds held (Err CannotWrite) = ⊥
Finds held (Err (Command fault)) = ⊥
Finds held (Err (Stream fault)) = ⊥

-- bytes that are known to have been read: the database whose file they are, or their fault
abbrev pub Decodes : Option Held → Result Stored TaskFault → Type 0
Decodes held (Ok database) = Finds held (Ok (Some database))
Decodes held (Err fault) = Finds held (Err fault)

-- ---- the contents after a write

-- these bytes replace the contents; after a failed write, the contents are the same as before, or these bytes; or, if
-- there was no database, bytes that are not a database
abbrev pub Replaces : {T : Type 0} → Option Held → Option Held → List ℕ → Result T TaskFault → Type 0
Replaces old new bytes (Ok x) = Becomes old new bytes
Replaces old new bytes (Err CannotWrite) = IsAfterFailure old new bytes
Replaces old new bytes (Err CannotOpen) = ⊥
Replaces old new bytes (Err (File fault)) = ⊥
Replaces old new bytes (Err (Command fault)) = ⊥
Replaces old new bytes (Err (Stream fault)) = ⊥

-- if there is a database, its layout is left in the storage
abbrev pub Leaves : {T : Type 0} → Option Stored → Option Held → Option Held → Result T TaskFault → Type 0
Leaves None old new (Ok x) = Stays old new
Leaves None old new (Err fault) = ⊥
Leaves (Some database) old new result = Replaces old new (layout database) result
