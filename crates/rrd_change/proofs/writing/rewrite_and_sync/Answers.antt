use Rattle.rrd_change.proofs.Common.{◌<◌, ◌≤◌, ◌+◌, arith, max, FailsToRestore, Restores, restores_failed, failed, steps_then}
use Rattle.rrd_change.proofs.writing.rewrite_and_sync.Goals as goal

pub returns-in_err-rewrite : goal.returns-in_err-rewrite
returns-in_err-rewrite g c =
    let from = c.args.from in
    let last = max from c.args.end in
    let at = c.loop-at.at in
    let next = at + c.min-count.result in
    let low : from ≤ at = c.loop-at.invariant.low in
    let before : at < c.args.end = c.loop-at-test.true in
    let few : next ≤ last = omega (arith, before, c.min-count.ensures) in
    failed _ _ c.from_residual.result _ _ c.from_residual.ensures.0
    (steps_then (Restores from at) (FailsToRestore at next) (FailsToRestore from last) _ _ _ (λ u v w m f. restores_failed from at next last u v w low (omega arith) few m f)
    c.loop-at.invariant.restores c.in_err-rewrite.ensures)
