use Rattle.rrd_change.proofs.Common.{ℕ, List, IsLogFound, LogEnd, IsMarked, Effect, does_then, failed, steps_then, plain_left}
use Rattle.rrd_change.proofs.repair.finish_log.Goals as goal

pub returns-in_err-settle : goal.returns-in_err-settle
returns-in_err-settle g c =
    let new = c.args.new.now in
    failed _ _ c.from_residual-in_err-settle.result _ _ c.from_residual-in_err-settle.ensures.0
    (steps_then _ _ _ _ _ _ (λ u v w r s end other h. s end other (r end other new h)) c.in_ok-restore.ensures c.in_err-settle.ensures)

pub returns : goal.returns
returns g c =
    let new = c.args.new.now in
    let log = c.args.log.now in
    let Placed : Effect = λ u w. (end : LogEnd) (other : List ℕ) → IsLogFound end other new log u → IsMarked new w in
    does_then Placed _ _ _ _ c.unmark.result _ _ _ (λ x u v w placed m end other h. m new (placed end other h))
    (λ u v w placed m end other h. let marked = placed end other h in plain_left end other new w marked.is (m new marked))
    (steps_then _ _ Placed _ _ _ (λ u v w r s end other h. s (r end other new h)) c.in_ok-restore.ensures c.in_ok-settle.ensures) c.unmark.ensures
