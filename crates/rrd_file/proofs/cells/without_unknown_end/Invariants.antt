use Rattle.rrd_file.proofs.Common.{◌≤◌, length}
use Rattle.rrd_file.proofs.cells.without_unknown_end.Given as goal

abbrev pub invariant-loop-end : goal.invariant-loop-end
invariant-loop-end l = l.end ≤ length l.cells

abbrev pub decreases-loop-end : goal.decreases-loop-end
decreases-loop-end l = l.end
