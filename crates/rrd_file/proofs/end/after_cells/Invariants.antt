use Rattle.rrd_file.proofs.Common.{◌≡◌, ◌-◌, after_cells}
use Rattle.rrd_file.proofs.end.after_cells.Given as goal

abbrev pub invariant-loop : goal.invariant-loop
invariant-loop l = after_cells l.sources (l.archives - l.counter) l.next l.rest ≡ after_cells l.sources l.archives l.fn.heads l.fn.cells
