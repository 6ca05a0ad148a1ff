use Rattle.rrd_disk.proofs.Common.{◌<◌, ◌≤◌, List, length, subst, arith, take_all, FileSpan, AreOf, are_more}
use Rattle.rrd_disk.proofs.storage.spans_within.Goals as goal

pub loop-number-preserved : goal.loop-number-preserved
loop-number-preserved c =
    let less : c.loop-number.number < length c.args.changed.now = omega arith in
    are_more c.args.count c.loop-number.number c.args.changed.now _ c.loop-number.spans.items c.push_within.new.spans.items less c.loop-number.invariant c.in_ok-push_within.ensures

pub returns : goal.returns
returns c =
    let all : length c.args.changed.now ≤ c.loop-number.number = omega arith in
    subst (λ (xs : List FileSpan). AreOf c.args.count xs c.loop-number.spans.items) (take_all c.loop-number.number c.args.changed.now all) c.loop-number.invariant
