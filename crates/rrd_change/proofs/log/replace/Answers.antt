use Rattle.rrd_change.proofs.Common.{ℕ, List, inl, inr, Whole, AgreesOutside, Began, IsAtRest, IsLogOf, IsMarked, Effect, does_then, failed, steps_as, steps_then, plain_left}
use Rattle.rrd_change.proofs.log.replace.Goals as goal

pub returns-in_err-mark : goal.returns-in_err-mark
returns-in_err-mark g c =
    let new = c.args.new.now in
    failed _ _ c.from_residual.result _ _ c.from_residual.ensures.0
    (steps_as _ _ _ _ (λ u v s old began agrees rest. inl (plain_left Whole new old v rest.is (s old rest))) c.in_err-mark.ensures)

pub returns-in_err-settle : goal.returns-in_err-settle
returns-in_err-settle g c =
    let new = c.args.new.now in
    let base = c.args.base.now in
    let changed = c.args.changed.now in
    let log = c.in_ok-log.log in
    let Logged : Effect = λ u w. (old : List ℕ) → Began base old → AgreesOutside changed old new → IsAtRest old u → IsLogOf new log w in
    failed _ _ c.from_residual-in_err-settle.result _ _ c.from_residual-in_err-settle.ensures.0
    (steps_then Logged _ _ _ _ _ (λ u v w l s old began agrees rest. inr (s Whole old (l old began agrees rest)))
    (steps_then _ _ Logged _ _ _ (λ u v w m b old began agrees rest. b old began agrees (m old rest)) c.in_ok-mark.ensures c.in_ok-log.ensures.does) c.in_err-settle.ensures)

pub returns : goal.returns
returns g c =
    let new = c.args.new.now in
    let base = c.args.base.now in
    let changed = c.args.changed.now in
    let log = c.in_ok-log.log in
    let Logged : Effect = λ u w. (old : List ℕ) → Began base old → AgreesOutside changed old new → IsAtRest old u → IsLogOf new log w in
    let Placed : Effect = λ u w. (old : List ℕ) → Began base old → AgreesOutside changed old new → IsAtRest old u → IsMarked new w in
    does_then Placed _ _ _ _ c.unmark.result _ _ _ (λ x u v w p m old began agrees rest. m new (p old began agrees rest))
    (λ u v w p m old began agrees rest.
    let marked = p old began agrees rest in
    inr (plain_left Whole old new w marked.is (m new marked)))
    (steps_then Logged _ Placed _ _ _ (λ u v w l s old began agrees rest. s (l old began agrees rest))
    (steps_then _ _ Logged _ _ _ (λ u v w m b old began agrees rest. b old began agrees (m old rest)) c.in_ok-mark.ensures c.in_ok-log.ensures.does) c.in_ok-settle.ensures)
    c.unmark.ensures
