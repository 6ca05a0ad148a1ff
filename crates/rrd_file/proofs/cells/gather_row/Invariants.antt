use Rattle.rrd_file.proofs.Common.{◌≡◌, ◌≤◌, length, Keeps, left}
use Rattle.rrd_file.proofs.cells.gather_row.Given as goal

abbrev pub invariant-loop-before : goal.invariant-loop-before
invariant-loop-before g l =
    Keeps (left l.initial.input) (left l.input) × (l.input.at ≡ l.initial.input.at) × (length l.initial.input.waiting ≤ length l.input.waiting)
