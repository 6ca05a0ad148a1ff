use Rattle.rrd_file.proofs.Common.{◌≤◌, ◌-◌, Adds, unknown}
use Rattle.rrd_file.proofs.cells.write_unknown.Given as goal

abbrev pub invariant-loop-done : goal.invariant-loop-done
invariant-loop-done g l = record {
  few : l.done ≤ l.count;
  added : Adds g.W.Write.contents l.fn.out l.out (unknown l.done);
}

abbrev pub decreases-loop-done : goal.decreases-loop-done
decreases-loop-done g l = l.count - l.done
