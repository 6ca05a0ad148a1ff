use Rattle.std.proofs.lemmas.Grind.{common_steps}
use Rattle.rrd_ring.proofs.Common.{sym, subst, arith, row_fits, IsPartlyWritten, cells_le, IsFilled, IsPushed, ring_filled, row_pushed, row_width, whole_row}
use Rattle.rrd_ring.proofs.archive.Archive.push_row.Goals as goal
use Rattle.rrd_ring.proofs.archive.Archive.push_row.Goals.{After-fill_up, After-write_row_at}

pub fill_up-requires : goal.fill_up-requires
fill_up-requires c = grind (arith, common_steps, cells_le)

filled : (c : After-fill_up) → IsFilled c.self.inside.rows c.self.inside.sources c.self.inside.oldest c.self.inside.oldest c.args.self.now c.fill_up.new.cells
filled c = ring_filled c.self.invariant.0 c.self.view_is (omega (arith, c.self.invariant.0.ring.index_within)) c.cells_of-start.ensures.count c.fill_up.ensures.items c.fill_up.ensures.capacity

pub write_row_at-requires-clause-within : goal.write_row_at-requires-clause-within
write_row_at-requires-clause-within c = omega (arith, c.fill_up.new.cells.ok.0, c.cells_of-start.ensures.count, (filled (goal.at.write_row_at-requires-clause-within c).After-fill_up).long)

pub write_row_at-requires-clause-whole : goal.write_row_at-requires-clause-whole
write_row_at-requires-clause-whole c =
    λ below.
    let a = c.self.inside in
    let v = c.fill_up.new.cells in
    let start = c.cells_of-start.ensures.count in
    let is = (filled (goal.at.write_row_at-requires-clause-whole c).After-fill_up).is in
    omega (arith, c.requires.one_each, row_width c.self.invariant.0 c.self.view_is, v.ok.0, start, whole_row a.sources a.oldest v.items is.ends (omega (arith, below, v.ok.0, start)))

pub write_row_at-requires-clause-room : goal.write_row_at-requires-clause-room
write_row_at-requires-clause-room c = grind (arith, common_steps, row_width c.self.invariant.0 c.self.view_is, row_fits)

pushed : (c : After-write_row_at) → IsFilled c.self.inside.rows c.self.inside.sources c.self.inside.oldest c.self.inside.oldest c.args.self.now c.fill_up.new.cells → IsPushed c.self.inside.rows c.self.inside.sources c.self.inside.oldest c.args.self.now c.write_row_at.new.cells c.args.cells.now
pushed c full = row_pushed full c.cells_of-start.ensures.count c.requires.one_each c.write_row_at.ensures.written c.write_row_at.ensures.capacity

pub invariant_of-self : goal.invariant_of-self
invariant_of-self c =
    let steps = goal.at.invariant_of-self c in
    (subst (λ index. IsPartlyWritten c.self.inside.rows c.self.inside.sources index c.write_row_at.new.cells) (sym c.wrap-self-inside.ensures.index) (pushed steps.After-write_row_at (filled steps.After-fill_up)).is, c.self.invariant.1)

pub returns-clause-rows : goal.returns-clause-rows
returns-clause-rows c = grind (arith, common_steps, pushed, filled)
