use Rattle.rrd_change.proofs.Common.{◌+◌, length, refl, arith, Log, all_laid_over, head_at, head_laid, none_at, common_steps}
use Rattle.rrd_change.proofs.finding.lay_log.Goals as goal

pub lay_change-requires-clause-few : goal.lay_change-requires-clause-few
lay_change-requires-clause-few c = grind (arith, common_steps, head_at c.args.database.now c.args.bytes.now c.loop-head.done c.in-Some.head c.loop-head.invariant.few c.in-Some.ensures)

pub lay_change-requires-clause-has : goal.lay_change-requires-clause-has
lay_change-requires-clause-has c = (head_at c.args.database.now c.args.bytes.now c.loop-head.done c.in-Some.head c.loop-head.invariant.few c.in-Some.ensures).has

pub loop-head-preserved : goal.loop-head-preserved
loop-head-preserved c =
    head_laid c.args.database.now c.args.bytes.now c.loop-head.database c.lay_change.new.database c.loop-head.spans.items c.lay_change.new.spans.items c.loop-head.done c.loop-head.changes c.loop-head.size c.in-Some.head c.loop-head.invariant
    (head_at c.args.database.now c.args.bytes.now c.loop-head.done c.in-Some.head c.loop-head.invariant.few c.in-Some.ensures) c.in_ok-lay_change.ensures.laid c.in_ok-lay_change.ensures.spans

pub returns : goal.returns
returns c =
    let log : Log = record { tail = length c.args.database.now; end = length c.args.database.now + c.loop-head.done; spans = c.loop-head.spans; changes = c.saturating_sub.result } in
    all_laid_over c.args.database.now c.args.bytes.now c.loop-head.database log c.loop-head.done c.loop-head.changes c.loop-head.size c.loop-head.invariant
    (none_at c.args.database.now c.args.bytes.now c.loop-head.done c.in_default.ensures) refl refl
    (omega (arith, c.saturating_sub.ensures))
