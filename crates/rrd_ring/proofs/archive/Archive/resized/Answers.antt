use Rattle.rrd_ring.proofs.Common.{◌*◌, arith, IsResized, newest_copied, ring_le}
use Rattle.rrd_ring.proofs.archive.Archive.resized.Goals as goal
use Rattle.rrd_ring.proofs.archive.Archive.resized.Goals.{In_ok-push_parts}

copied : (c : In_ok-push_parts) → IsResized c.args.rows c.self.inside.sources c.args.self.now c.push_parts.new.copies
copied c =
    let all = c.self.inside.rows * c.self.inside.sources in
    let items = c.in_ok-push_parts.ensures all (rw c.deref.ensures.value (ring_le _ _ _ _ c.self.invariant.0)) c.parts_of-parts.ensures.before_end (omega arith) in
    newest_copied c.self.invariant.0 c.self.view_is c.len.ensures c.rows_written-written.ensures.written c.rows_written-written.ensures.few c.requires.some_rows c.requires.few_rows c.min-kept.ensures c.parts_of-parts.ensures.parts
    (rw (c.in_ok-cells.ensures, c.deref.ensures.value, c.cells_of.ensures.count) at items)

pub invariant_of-result : goal.invariant_of-result
invariant_of-result c = ((copied (goal.at.invariant_of-result c).In_ok-push_parts).is, c.in_ok-unwritten.ensures)

pub returns : goal.returns
returns c = (copied (goal.at.returns c).In_ok-push_parts).rows_are
