use Rattle.rrd_change.proofs.Common.{rules, ℕ, List, subst, max, ArePut, AreWholeOrNot, IsSized, IsSizedOrNot, IsTorn, Does, Fails, FailsToRestore, Stores, StoresAgain, seen, Cuts, Leaves, Rewrites, cut_is_log, cut_leaves, cuts, mark_leaves, marks_again, rewrite_leaves, rewrites, does_then, failed, never_steps, steps_as, steps_then}
use Rattle.rrd_change.proofs.repair.restore.Goals as goal

pub returns-in_err-resize_and_sync : goal.returns-in_err-resize_and_sync
returns-in_err-resize_and_sync g c =
    let log = c.args.log.now in
    failed _ _ c.from_residual.result _ _ c.from_residual.ensures.0 (steps_as (Fails (IsSizedOrNot log.end) (IsSizedOrNot log.end)) (Leaves log) _ _ (cut_leaves log) c.in_err-resize_and_sync.ensures)

pub returns-in_err-rewrite_and_sync : goal.returns-in_err-rewrite_and_sync
returns-in_err-rewrite_and_sync g c =
    let log = c.args.log.now in
    failed _ _ c.from_residual-in_err-rewrite_and_sync.result _ _ c.from_residual-in_err-rewrite_and_sync.ensures.0
    (steps_then (Cuts log) (FailsToRestore log.tail (max log.tail log.end)) (Leaves log) _ _ _ (rewrite_leaves log)
    (steps_as (Stores (IsSized log.end)) (Cuts log) _ _ (cuts log) c.in_ok-resize_and_sync.ensures) c.in_err-rewrite_and_sync.ensures)

pub returns-then-eq : goal.returns-then-eq
returns-then-eq g c =
    let log = c.args.log.now in
    never_steps c.args.syncs (Cuts log) _ _ _ (search rules) (cut_is_log log) (steps_as (Stores (IsSized log.end)) (Cuts log) _ _ (cuts log) c.in_ok-resize_and_sync.ensures)

pub returns : goal.returns
returns g c =
    let log = c.args.log.now in
    let syncs = c.args.syncs in
    let P : List ℕ → Type 0 = λ m. Does (λ x. Stores (ArePut 0 m)) (Fails (AreWholeOrNot 0 m) (IsTorn 0 m)) c.mark_and_sync.result (seen syncs (g.F.Bytes.view c.rewrite_and_sync.new.file)) (seen syncs (g.F.Bytes.view c.mark_and_sync.new.file)) in
    does_then (Rewrites log) _ _ _ (Leaves log) c.mark_and_sync.result _ _ _ (λ x u v w again s. marks_again log u v w again s) (mark_leaves log)
    (steps_then (Cuts log) (StoresAgain log.tail (max log.tail log.end)) (Rewrites log) _ _ _ (rewrites log)
    (steps_as (Stores (IsSized log.end)) (Cuts log) _ _ (cuts log) c.in_ok-resize_and_sync.ensures) c.in_ok-rewrite_and_sync.ensures) (subst P c.log_mark.ensures c.mark_and_sync.ensures)
