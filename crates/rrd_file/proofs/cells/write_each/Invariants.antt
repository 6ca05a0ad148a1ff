use Rattle.rrd_file.proofs.Common.{◌≤◌, ◌-◌, length, map, take, flat_map, OfCell, spell, Adds}
use Rattle.rrd_file.proofs.cells.write_each.Given as goal

abbrev pub invariant-loop-done : goal.invariant-loop-done
invariant-loop-done g l = record {
  few : l.done ≤ length l.cells;
  added : Adds g.W.Write.contents l.fn.out l.out (flat_map spell (map OfCell (take l.done l.cells)));
}

abbrev pub decreases-loop-done : goal.decreases-loop-done
decreases-loop-done g l = length l.cells - l.done
