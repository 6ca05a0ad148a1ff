use Rattle.std.proofs.lemmas.Grind.{common_steps}
use Rattle.rrd_ring.proofs.Common.{◌≤◌, arith, with_items, cells_le, rows_len, IsPutBack, MayPutBack, are_put_back, ring_filled_up, row_count}
use Rattle.rrd_ring.proofs.archive.Archive.put_back.Goals as goal
use Rattle.rrd_ring.proofs.archive.Archive.put_back.Goals.{After-fill_up, After-write_from}

pub overflow_sub-self-inside : goal.overflow_sub-self-inside
overflow_sub-self-inside c = omega (arith, c.requires.fits, row_count c.self.invariant.0 c.self.view_is, rows_len _ _ _ _ c.dropped.view_is)

filled : (c : After-fill_up) → MayPutBack c.self.inside.rows c.self.inside.sources c.self.inside.oldest c.dropped.inside.rows c.args.self.now c.args.dropped c.fill_up.new.cells.items c.dropped.inside.cells.items
filled c = ring_filled_up c.self.invariant.0 c.self.view_is c.dropped.invariant c.dropped.view_is c.requires.fits c.requires.one_width c.cells_of.ensures.count c.fill_up.ensures.items

pub write_from-requires-clause-within : goal.write_from-requires-clause-within
write_from-requires-clause-within c =
    let index = c.wrap-self-inside.result in
    let before : index ≤ c.self.inside.rows = omega (arith, c.wrap-self-inside.ensures.within) in
    rw c.deref_mut.ensures.value (omega (arith, c.cells_of-start.ensures.count, (filled (goal.at.write_from-requires-clause-within c).After-fill_up).is.whole, cells_le index c.self.inside.rows c.self.inside.sources before))

pub write_from-requires-clause-few : goal.write_from-requires-clause-few
write_from-requires-clause-few c =
    let full = filled (goal.at.write_from-requires-clause-few c).After-fill_up in
    rw (c.as_slice.ensures, c.deref_mut.ensures.value) (omega (arith, full.cells, full.is.whole, cells_le c.dropped.inside.rows c.self.inside.rows c.self.inside.sources full.fewer))

written : (c : After-write_from) → MayPutBack c.self.inside.rows c.self.inside.sources c.self.inside.oldest c.dropped.inside.rows c.args.self.now c.args.dropped c.fill_up.new.cells.items c.dropped.inside.cells.items
    → IsPutBack c.self.inside.rows c.self.inside.sources c.wrap-self-inside.result c.args.self.now c.args.dropped (with_items c.fill_up.new.cells c.write_from.new.ring)
written c full = grind (arith, common_steps, are_put_back c.fill_up.new.cells c.write_from.new.ring full c.wrap-self-inside.ensures.index c.cells_of-start.ensures.count)

pub invariant_of-self : goal.invariant_of-self
invariant_of-self c = grind (arith, common_steps, written, filled)

pub returns : goal.returns
returns c = grind (arith, common_steps, written, filled)
