use Rattle.rrd_ring.proofs.Common.{ap, length, take, arith, length-append, length-take-le}
use Rattle.rrd_ring.proofs.ring.push_each.Goals as goal

pub push_reserved-requires : goal.push_reserved-requires
push_reserved-requires c =
    let v = c.loop-i.cells in
    let old = c.args.cells.now in
    let row = c.args.row.now in
    omega (arith, c.requires.room, c.loop-i-test.true, v.ok.0, old.ok.0, ap length c.loop-i.invariant.written, length-append old.items (take c.loop-i.i row), length-take-le c.loop-i.i row (omega arith), c.loop-i.invariant.capacity)
