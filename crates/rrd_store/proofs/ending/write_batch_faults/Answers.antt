use Rattle.rrd_store.proofs.Common.{err_from_is_err_and, writes_stop, writes_then, report_if, report_of, Stream, USAGE}
use Rattle.rrd_store.proofs.ending.write_batch_faults.Goals as goal

pub returns-in_default : goal.returns-in_default
returns-in_default g c = rw c.in_default.is c.write_if.ensures

pub returns-in_err-write_task_fault : goal.returns-in_err-write_task_fault
returns-in_err-write_task_fault g c =
    let p = err_from_is_err_and c.from_residual.result c.from_residual.ensures.1 in
    let old = g.W.Write.contents c.args.err.now in
    let new = g.W.Write.contents c.write_task_fault.new.err in
    rw (c.in-Some.is, p.1) (writes_stop old new (report_of USAGE.now (Stream c.in-Some.fault)) (report_if USAGE.now c.args.unstored) c.in_err-write_task_fault.ensures)

pub returns : goal.returns
returns g c =
    let old = g.W.Write.contents c.args.err.now in
    let mid = g.W.Write.contents c.write_task_fault.new.err in
    let new = g.W.Write.contents c.write_if-2.new.err in
    rw c.in-Some.is (writes_then {T = Unit {0}} old mid new (report_of USAGE.now (Stream c.in-Some.fault)) (report_if USAGE.now c.args.unstored) c.write_if-2.result c.in_ok-write_task_fault.ensures c.write_if-2.ensures)
