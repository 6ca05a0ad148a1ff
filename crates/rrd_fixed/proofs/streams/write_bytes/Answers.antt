use Rattle.rrd_fixed.proofs.Common.{arith, length-drop, err_from_is_err_and, front_kept, Appends-trans, take-add, common_steps}
use Rattle.rrd_fixed.proofs.Writings.{take_rest}
use Rattle.rrd_fixed.proofs.streams.write_bytes.Goals as goal

pub returns-in_err-at : goal.returns-in_err-at
returns-in_err-at g c =
    let p = err_from_is_err_and c.from_residual.result c.from_residual.ensures.1 in
    let h = c.in_err-at.ensures.err in
    rw p.1 (front_kept _ _ _ c.args.bytes.now c.loop-at.at c.loop-at-test.true c.loop-at.invariant.1 h)

pub loop-at-preserved : goal.loop-at-preserved
loop-at-preserved g c = grind (arith, common_steps, take_rest, length-drop, take-add, Appends-trans)
