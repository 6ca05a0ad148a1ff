-- What the bytes of a file, and the first of them, say of the result of reading the file.
use Rattle.rrd_disk.proofs.Names.{◌≡◌, ◌++◌, ℕ, IfOk, List, length, drop, true, Some, Result, Ok, Err, refl, sym, subst, arith, front_from_reads, FileFault, NotOurs, WrongVersion, Truncated, BadBlock, BadEntry, Trailing, OutOfMemory, IsFault, IsFile, IsOfFile, FrontHasTheFault, HasOneAnswer, Stored, Bytes, Decodes, IsNoFile, TaskFault, Command, Stream, File, CannotOpen, CannotWrite, Begins, IsJudged, IsJudgedFault, is_fault_of_bytes, is_of_bytes}
use Rattle.rrd_file.specs.declared.fault.FileFault.TheVariants.{Read}

-- ---- the first bytes

module _ (law : (front rest : List ℕ) (fault : FileFault) → FrontHasTheFault front rest fault) where
  fault_of_file : (front rest : List ℕ) (fault : FileFault) → IsJudgedFault fault → IsFault front fault → IsFault (front ++ rest) fault
  fault_of_file front rest NotOurs judged is = law front rest NotOurs tt is
  fault_of_file front rest WrongVersion judged is = law front rest WrongVersion tt is
  fault_of_file front rest (Truncated at) judged is = absurd judged
  fault_of_file front rest (BadBlock at) judged is = law front rest (BadBlock at) tt is
  fault_of_file front rest (BadEntry number) judged is = law front rest (BadEntry number) tt is
  fault_of_file front rest (Trailing at) judged is = law front rest (Trailing at) tt is
  fault_of_file front rest _ judged is = tt

  decodes_more : (front rest : List ℕ) (read : Result Stored TaskFault) → IsJudged read → Decodes (Some (Bytes front)) read → Decodes (Some (Bytes (front ++ rest))) read
  decodes_more front rest (Err (File fault)) judged known = fault_of_file front rest fault judged known
  decodes_more front rest _ judged known = absurd judged

  pub reads_judged : (file front : List ℕ) (read : Result Stored TaskFault) → Begins file front → IsJudged read → Decodes (Some (Bytes front)) read → Decodes (Some (Bytes file)) read
  reads_judged file front read begins judged known =
      let whole : file ≡ front ++ drop (length front) file = front_from_reads 0 file front begins.within (λ i low. sym (begins.each i low)) in
      subst (λ (b : List ℕ). Decodes (Some (Bytes b)) read) (sym whole) (decodes_more front (drop (length front) file) read judged known)

pub begins_itself : (bytes : List ℕ) → Begins bytes bytes
begins_itself bytes = record { within = omega arith; each = λ i low. refl }

-- a database that was read from these bytes is theirs
pub decodes_front : (read : Result Stored TaskFault) (bytes front : List ℕ) → bytes ≡ front → Decodes (Some (Bytes bytes)) read → IfOk read (IsFile front)
decodes_front (Ok database) bytes front same known = subst (λ (b : List ℕ). IsFile b database) same known
decodes_front (Err fault) bytes front same known = tt

-- ---- bytes that have a fault are no database

module _ (one : (bytes : List ℕ) → HasOneAnswer bytes) (bytes : List ℕ) where
  no_file_by : (fault : FileFault) → IsOfFile (Err fault) → IsFault bytes fault → IsNoFile bytes
  no_file_by fault of is = λ d file.
      let same : Ok d ≡ Err fault = one bytes (Ok d) (Err fault) file is tt of in cc

  no_file_fault : (fault : FileFault) → is_fault_of_bytes fault ≡ true → IsFault bytes fault → IsNoFile bytes
  no_file_fault NotOurs of is = no_file_by NotOurs tt is
  no_file_fault WrongVersion of is = no_file_by WrongVersion tt is
  no_file_fault (Truncated at) of is = no_file_by (Truncated at) tt is
  no_file_fault (BadBlock at) of is = no_file_by (BadBlock at) tt is
  no_file_fault (BadEntry number) of is = no_file_by (BadEntry number) tt is
  no_file_fault (Trailing at) of is = no_file_by (Trailing at) tt is
  no_file_fault _ of is = absurd cc

  pub no_file : (fault : TaskFault) → Decodes (Some (Bytes bytes)) (Err fault) → is_of_bytes fault ≡ true → IsNoFile bytes
  no_file (File fault) known of = no_file_fault fault of known
  no_file CannotOpen known of = absurd cc
  no_file _ known of = absurd known
