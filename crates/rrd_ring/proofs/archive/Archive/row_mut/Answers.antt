use Rattle.rrd_ring.proofs.Common.{◌≡◌, ◌+◌, ◌*◌, ◌∙◌, refl, arith, IsLent, one_more, row_lent, with_row-same_width, ring_filled, row_count}
use Rattle.rrd_ring.proofs.archive.Archive.row_mut.Goals as goal
use Rattle.rrd_ring.proofs.archive.Archive.row_mut.Goals.{After-fill_up}

pub index_of-index-requires-clause-there : goal.index_of-index-requires-clause-there
index_of-index-requires-clause-there c = omega (arith, c.requires, row_count c.self.invariant.0 c.self.view_is)

lent : (c : After-fill_up) → IsLent c.self.inside.rows c.self.inside.sources c.self.inside.oldest c.args.i c.cells_of-start.result c.args.self.now c.fill_up.new.cells
lent c =
    let at = c.index_of-index.result in
    let start = c.cells_of-start.ensures.count in
    let end : c.cells_of-start.result + c.self.inside.sources ≡ (at + 1) * c.self.inside.sources = omega (arith, start, one_more at c.self.inside.sources) in
    row_lent (ring_filled {k = at + 1} c.self.invariant.0 c.self.view_is (omega (arith, c.index_of-index.ensures.within)) end c.fill_up.ensures.items c.fill_up.ensures.capacity) c.index_of-index.ensures.index c.requires start

pub returns : goal.returns
returns c =
    let row = lent (goal.at.returns c).After-fill_up in
    ((refl, row.rows_are), record { writes_back = tt; value = c.row_mut.ensures.value ∙ row.value; same_width = with_row-same_width c.args.self.now c.args.i })

pub invariant_of-self-lent : goal.invariant_of-self-lent
invariant_of-self-lent c = λ w. ((lent (goal.at.invariant_of-self-lent c).After-fill_up).is w, c.self.invariant.1)
