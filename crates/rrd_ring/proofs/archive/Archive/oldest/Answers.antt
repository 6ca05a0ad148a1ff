use Rattle.rrd_ring.proofs.Common.{◌*◌, arith, AreCopied, oldest_copied, ring_le, row_count}
use Rattle.rrd_ring.proofs.archive.Archive.oldest.Goals as goal
use Rattle.rrd_ring.proofs.archive.Archive.oldest.Goals.{In_ok-cells}

pub parts_of-parts-requires-clause-few : goal.parts_of-parts-requires-clause-few
parts_of-parts-requires-clause-few c = omega (arith, c.requires, row_count c.self.invariant.0 c.self.view_is)

copied : (c : In_ok-cells) → AreCopied c.args.n c.self.inside.sources c.args.self.now c.in_ok-cells.cells.items
copied c =
    let all = c.self.inside.rows * c.self.inside.sources in
    let items = c.in_ok-cells.ensures all (rw c.deref.ensures.value (ring_le _ _ _ _ c.self.invariant.0)) c.parts_of-parts.ensures.before_end (omega arith) in
    oldest_copied c.self.invariant.0 c.self.view_is c.parts_of-parts.ensures.parts c.requires (rw c.deref.ensures.value at items)

pub invariant_of-result : goal.invariant_of-result
invariant_of-result c = (copied (goal.at.invariant_of-result c).In_ok-cells).are

pub returns : goal.returns
returns c = (copied (goal.at.returns c).In_ok-cells).rows_are
