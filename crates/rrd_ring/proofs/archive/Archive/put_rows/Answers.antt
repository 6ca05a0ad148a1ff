use Rattle.std.proofs.lemmas.Grind.{common_steps}
use Rattle.rrd_ring.proofs.Common.{◌*◌, ap, arith, ArePut, are_put, row_count, row_width}
use Rattle.rrd_ring.proofs.archive.Archive.put_rows.Goals as goal
use Rattle.rrd_ring.proofs.archive.Archive.put_rows.Goals.{After-write_cells-2}

pub parts_of-parts-requires-clause-there : goal.parts_of-parts-requires-clause-there
parts_of-parts-requires-clause-there c = omega (arith, c.requires.there, row_count c.self.invariant.0 c.self.view_is)

pub parts_of-parts-requires-clause-few : goal.parts_of-parts-requires-clause-few
parts_of-parts-requires-clause-few c = omega (arith, c.requires.few, row_count c.self.invariant.0 c.self.view_is)

pub split_at-requires : goal.split_at-requires
split_at-requires c = omega (arith, c.parts_of-parts.ensures.all, c.requires.one_each, ap (λ n. c.args.count * n) (row_width c.self.invariant.0 c.self.view_is))

pub write_cells-requires-2 : goal.write_cells-requires-2
write_cells-requires-2 c = grind (arith, common_steps, row_width c.self.invariant.0 c.self.view_is)

written : (c : After-write_cells-2) → ArePut c.self.inside.rows c.self.inside.sources c.self.inside.oldest c.args.i c.args.count c.args.self.now c.write_cells-2.new.cells c.args.cells.now
written c =
    are_put {one = c.write_cells.new.cells} c.self.invariant.0 c.self.view_is c.parts_of-parts.ensures.parts c.requires.few c.requires.one_each c.split_at.ensures.front c.split_at.ensures.back
    (record { items = c.write_cells.ensures.items; room = c.write_cells.ensures.capacity })
    (record { items = c.write_cells-2.ensures.items; room = c.write_cells-2.ensures.capacity })

pub invariant_of-self : goal.invariant_of-self
invariant_of-self c = ((written (goal.at.invariant_of-self c).After-write_cells-2).is, c.self.invariant.1)

pub returns : goal.returns
returns c = (written (goal.at.returns c).After-write_cells-2).rows_are
