use Rattle.rrd_ring.proofs.Common.{◌*◌, replicate, arith, Unknown, width, ArePut, are_forgotten, row_count}
use Rattle.rrd_ring.proofs.archive.Archive.clear_rows_wrapping.Goals as goal
use Rattle.rrd_ring.proofs.archive.Archive.clear_rows_wrapping.Goals.{After-forget-2}

pub parts_of-parts-requires-clause-there : goal.parts_of-parts-requires-clause-there
parts_of-parts-requires-clause-there c = omega (arith, c.requires.there, row_count c.self.invariant.0 c.self.view_is)

pub parts_of-parts-requires-clause-few : goal.parts_of-parts-requires-clause-few
parts_of-parts-requires-clause-few c = omega (arith, c.requires.few, row_count c.self.invariant.0 c.self.view_is)

cleared : (c : After-forget-2) → ArePut c.self.inside.rows c.self.inside.sources c.self.inside.oldest c.args.i c.args.count c.args.self.now c.forget-2.new.cells (replicate (c.args.count * width c.args.self.now) Unknown)
cleared c =
    are_forgotten {one = c.forget.new.cells} c.self.invariant.0 c.self.view_is c.parts_of-parts.ensures.parts c.requires.few
    (record { cells = c.forget.ensures.cells; as_many = c.forget.ensures.as_many; room = c.forget.ensures.capacity })
    (record { cells = c.forget-2.ensures.cells; as_many = c.forget-2.ensures.as_many; room = c.forget-2.ensures.capacity })

pub invariant_of-self : goal.invariant_of-self
invariant_of-self c = ((cleared (goal.at.invariant_of-self c).After-forget-2).is, c.self.invariant.1)

pub returns : goal.returns
returns c = (cleared (goal.at.returns c).After-forget-2).rows_are
