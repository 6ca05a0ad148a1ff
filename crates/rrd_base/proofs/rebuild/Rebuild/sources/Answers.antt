use Rattle.rrd_base.proofs.Common.{ap, arith, length, Outline, coming, some_left}
use Rattle.rrd_base.proofs.rebuild.Rebuild.sources.Goals as goal

pub returns-clause-some : goal.returns-clause-some
returns-clause-some c =
    let some = some_left c.cells_stand_in_slots.ensures.as_many c.outlines_follow.ensures.undone c.outlines_follow.ensures.filed c.journals_in_pieces.ensures.leaves (coming c.self.inside) c.args.self.now c.self.invariant.came c.self.view_is c.requires in
    omega (arith, some, ap (λ (o : Outline). length o.sources) c.outline.ensures.value)
