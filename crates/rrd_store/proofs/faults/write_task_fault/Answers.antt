use Rattle.rrd_store.proofs.Common.{◌≡◌, ◌∙◌, [], List, ℕ, sym, true, if◌then◌else◌, err_from_is_err_and, Writes, writes_stop, writes_then, error_line, is_usage_error, task_fault_text, USAGE}
use Rattle.rrd_store.proofs.faults.write_task_fault.Goals as goal

pub returns-in_err-write_line : goal.returns-in_err-write_line
returns-in_err-write_line g c =
    let p = err_from_is_err_and c.from_residual.result c.from_residual.ensures.1 in
    let line : List ℕ = error_line (task_fault_text c.args.fault.now) in
    let usage : List ℕ = if is_usage_error c.args.fault.now then USAGE.now else [] in
    rw p.1 (writes_stop (g.W.Write.contents c.args.err.now) (g.W.Write.contents c.write_line.new.err) line usage c.in_err-write_line.ensures)

pub returns-then-is_usage_error : goal.returns-then-is_usage_error
returns-then-is_usage_error g c =
    let old = g.W.Write.contents c.args.err.now in
    let mid = g.W.Write.contents c.write_line.new.err in
    let new = g.W.Write.contents c.write_bytes.new.out in
    let line : List ℕ = error_line (task_fault_text c.args.fault.now) in
    let misuse : is_usage_error c.args.fault.now ≡ true = sym c.is_usage_error.ensures ∙ c.if-is_usage_error.true in
    let usage : Writes mid new USAGE.now c.write_bytes.result = rw c.as_bytes.ensures.value at c.write_bytes.ensures in
    rw misuse (writes_then {T = Unit {0}} old mid new line USAGE.now c.write_bytes.result c.in_ok-write_line.ensures usage)
