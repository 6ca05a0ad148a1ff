use Rattle.rrd_disk.proofs.Common.{ap, inl, Whole, Base, does_then, failed, steps_as, plain_left, any_enough, began_at}
use Rattle.rrd_disk.proofs.storage.FileStorage.put_open.Goals as goal

pub base_of-requires : goal.base_of-requires
base_of-requires g c = any_enough c.file_laws.ensures c.args.bytes.now c.requires

pub returns-in_err-mark-in-Open-clause-does : goal.returns-in_err-mark-in-Open-clause-does
returns-in_err-mark-in-Open-clause-does g c = rw (← c.syncs-syncs.ensures) (
    failed _ _ c.from_residual.result _ _ c.from_residual.ensures.0
    (steps_as _ _ _ _ (λ u v s now any agrees is. (Whole, inl (plain_left Whole c.args.bytes.now now v is.1.is (s now is.1)))) c.in_err-mark-in-Open.ensures))

pub returns-in_err-replace-in-Closed-clause-does : goal.returns-in_err-replace-in-Closed-clause-does
returns-in_err-replace-in-Closed-clause-does g c = rw (← c.syncs-syncs.ensures) (
    failed _ _ c.from_residual-in_err-replace-in-Closed.result _ _ c.from_residual-in_err-replace-in-Closed.ensures.0
    (steps_as _ _ _ _ (λ u v s now any agrees is. (Whole, s now is.0 agrees is.1)) c.in_err-replace-in-Closed.ensures))

pub returns-in_ok-mark-in-Open-clause-does : goal.returns-in_ok-mark-in-Open-clause-does
returns-in_ok-mark-in-Open-clause-does g c =
    let marked = rw c.syncs-syncs.ensures at c.in_ok-mark-in-Open.ensures in
    does_then _ _ _ _ _ c.put_kept.result _ _ _ (λ x u v w m s now any agrees is. s now any agrees (is.0, m now is.1)) (λ u v w m s now any agrees is. s now any agrees (is.0, m now is.1)) marked c.put_kept.ensures.does

pub returns-in_ok-replace-in-Closed-clause-does : goal.returns-in_ok-replace-in-Closed-clause-does
returns-in_ok-replace-in-Closed-clause-does g c = rw (← c.syncs-syncs.ensures) (
    steps_as _ _ _ _ (λ u v s now any agrees is. (began_at c.file_laws.ensures c.base_of.result c.args.bytes.now c.requires (ap (λ (b : Base). b.length) c.base_of.ensures) (ap (λ (b : Base). b.first) c.base_of.ensures), s now is.0 agrees is.1)) c.in_ok-replace-in-Closed.ensures)
