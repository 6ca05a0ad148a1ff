use Rattle.rrd_base.proofs.Common.{take, AllByRecursion, IsBounded}
use Rattle.rrd_base.proofs.rebuild.piece_checks.are_bounded.Given as goal

abbrev pub invariant-loop-cell : goal.invariant-loop-cell
invariant-loop-cell l = AllByRecursion IsBounded (take l.cell-index l.cells)
