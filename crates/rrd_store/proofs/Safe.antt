-- What is said of a run that changed the database is also said of it where the change is read whole.
use Rattle.std.proofs.Common.{arith}
use Rattle.std.proofs.Common.{◌≡◌, Bool, true, false, IsOk, IsTrue, List, ℕ, Option, Some, None, Result, Ok, Err, refl, sym}
use Rattle.std.specs.Result.{result_err}
use Rattle.std.proofs.lemmas.Bool.{false≢true, true≢false}
use Rattle.rrd_file.specs.Layout.{layout}
use Rattle.rrd_spec.specs.Journal.Survivors.{Stored}
use Rattle.rrd_tool.specs.Execution.{database_left, has_changed}
use Rattle.rrd_tool.specs.declared.execution.Outcome.{Outcome}
use Rattle.rrd_tool.specs.declared.execution.Outcome.TheVariants.{Printed, Changed, Refused}
use Rattle.rrd_store.specs.Batch.{HoldsOfLeft, RunsLines}
use Rattle.rrd_store.specs.Single.{Ends}
use Rattle.rrd_store.specs.Storages.{Bytes, Held, Leaves, Stays}
use Rattle.rrd_store.specs.declared.stored_batch.FileBatchEnd.{FileBatchEnd}
use Rattle.rrd_store.specs.declared.faults.TaskFault.{TaskFault}

some_is : (x y : Stored) → Some x ≡ Some y → x ≡ y
some_is x y e = cc

pub whole_ends : (outcome : Outcome) (text : List ℕ) (old new : Option Held) (end : Result (Unit {0}) TaskFault) (database : Stored)
    → has_changed outcome ≡ true → database_left outcome ≡ Some database → Ends outcome text old new end → Ends outcome text old (Some (Bytes (layout database))) end
whole_ends (Printed d) text old new end database changed left ends = absurd (true≢false (sym changed))
whole_ends (Changed d) text old new end database changed left ends = grind arith
whole_ends (Refused d fault) text old new end database changed left ends = absurd (true≢false (sym changed))

-- a command that changed nothing left what was there
pub printed_stays : (outcome : Outcome) (text : List ℕ) (old new : Option Held) (end : Result (Unit {0}) TaskFault) → IsOk end → has_changed outcome ≡ false → Ends outcome text old new end → Stays old new
printed_stays outcome text old new (Err fault) ok same ends = absurd (false≢true ok)
printed_stays (Printed d) text old new (Ok x) ok same ends = ends
printed_stays (Changed d) text old new (Ok x) ok same ends = absurd (true≢false same)
printed_stays (Refused d fault) text old new (Ok x) ok same ends = absurd (let no = ends.0 in cc)

-- the same of lines
pub whole_lines : (now numbered : ℕ) (found : Option Stored) (old new : Option Held) (r0 r1 c0 c1 : Option (List ℕ)) (end : FileBatchEnd) (database : Stored)
    → (lines : RunsLines now numbered found old new r0 r1 c0 c1 end) → lines.last ≡ Some database → RunsLines now numbered found old (Some (Bytes (layout database))) r0 r1 c0 c1 end
whole_lines now numbered found old new r0 r1 c0 c1 end database lines last = grind arith

pub left_holds : (now numbered : ℕ) (found left : Option Stored) (old new : Option Held) (r0 r1 c0 c1 : Option (List ℕ)) (end : FileBatchEnd) (Q : List ℕ → Bool)
    → (lines : RunsLines now numbered found old new r0 r1 c0 c1 end) → lines.last ≡ left
    → ((b : List ℕ) → RunsLines now numbered found old (Some (Bytes b)) r0 r1 c0 c1 end → IsTrue (Q b)) → HoldsOfLeft Q left
left_holds now numbered found left old new r0 r1 c0 c1 end Q lines same holds = grind arith

-- no database was left, and nothing was written
pub none_left : {T : Type 0} (left : Option Stored) (old new : Option Held) (end : Result T TaskFault) → IsOk end → left ≡ None → Leaves left old new end → Stays old new
none_left None old new (Ok x) ok none left = left
none_left None old new (Err fault) ok none left = absurd (false≢true ok)
none_left (Some database) old new end ok none left = absurd cc

pub ok_of : {T : Type 0} (end : Result T TaskFault) → result_err end ≡ None → IsOk end
ok_of (Ok x) none = refl
ok_of (Err fault) none = absurd cc
