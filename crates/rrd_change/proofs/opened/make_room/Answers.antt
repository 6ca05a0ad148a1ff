use Rattle.rrd_change.proofs.Common.{◌≡◌, ℕ, List, subst, sym, ◌∙◌, changes_in, laid_over, IsLeft, IsLogOf, IsMarked, Reads, Stays, World, read_now, seen_reads, seen_stays, stays_log, does_then, failed, steps_as, log_left, arith, common_steps}
use Rattle.rrd_change.proofs.opened.make_room.Goals as goal

pub returns-in_err-read : goal.returns-in_err-read
returns-in_err-read g c = grind (arith, common_steps, failed, steps_as Stays, log_left, stays_log, seen_stays c.args.syncs)

pub returns-in_err-found : goal.returns-in_err-found
returns-in_err-found g c = grind (arith, common_steps, failed, steps_as, log_left, stays_log, seen_reads c.args.syncs 0)

pub returns : goal.returns
returns g c =
    let log = c.args.log.now in
    let bytes = c.read.new.into.items in
    let database = c.database.result.now in
    let laid : database ≡ laid_over (changes_in log.tail bytes) bytes = c.database.ensures ∙ c.in_ok-found.ensures.database in
    let is_log : (now : List ℕ) (u v : World) → Reads 0 log.end bytes u v → IsLogOf now log u → IsLogOf database log v = λ now u v r is.
    subst (λ (xs : List ℕ). IsLogOf xs log v) (sym (read_now now log bytes database u v r is laid)) (stays_log now log u v r.0 is) in
    does_then (Reads 0 log.end bytes) _ _ _ _ c.settle.result _ _ _
    (λ x u v w r s now is. let P : List ℕ → Type 0 = λ xs. IsMarked xs w in subst P (read_now now log bytes database u v r is laid) (s (is_log now u v r is)))
    (λ u v w r s end other now is. let P : List ℕ → Type 0 = λ xs. IsLeft end other xs w in subst P (read_now now log bytes database u v r is laid) (s end other (is_log now u v r is)))
    (seen_reads c.args.syncs 0 log.end bytes _ _ c.in_ok-read.ensures) c.settle.ensures
