use Rattle.std.proofs.Common.{◌≤◌, length, ◌+◌, arith}
use Rattle.rrd_store.proofs.Compared.{compared_all, compared_more, compared_new}
use Rattle.rrd_store.proofs.differing.differing.Goals as goal

pub loop-start-preserved-in_ok-push_some : goal.loop-start-preserved-in_ok-push_some
loop-start-preserved-in_ok-push_some c =
    let less : c.loop-start.start + c.min.result ≤ length c.args.new.now = omega (arith, c.min.ensures, c.loop-start.invariant.within) in
    compared_new c.loop-start.start c.min.result c.loop-start.last c.loop-start.spans.items c.args.old.now c.args.new.now c.loop-start.invariant less c.push_some.new.spans.items c.in_ok-push_some.ensures

pub loop-start-preserved-else-last-block : goal.loop-start-preserved-else-last-block
loop-start-preserved-else-last-block c =
    let less : c.loop-start.start + c.min.result ≤ length c.args.new.now = omega (arith, c.min.ensures, c.loop-start.invariant.within) in
    compared_more c.loop-start.start c.min.result c.loop-start.last c.loop-start.spans.items c.args.old.now c.args.new.now c.loop-start.invariant less c.if-last-block.false

pub returns : goal.returns
returns c =
    compared_all c.loop-start.start c.loop-start.last c.loop-start.spans.items c.push_some-2.new.spans.items c.args.old.now c.args.new.now c.loop-start.invariant (omega arith) c.in_ok-push_some-2.ensures
