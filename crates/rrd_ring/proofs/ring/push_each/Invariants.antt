use Rattle.std.proofs.Common.{◌≡◌, ◌+◌, ◌++◌, take, vec_capacity}
use Rattle.rrd_ring.proofs.ring.push_each.Given as goal

abbrev pub invariant-loop-i : goal.invariant-loop-i
invariant-loop-i l = record {
  written : l.cells.items ≡ l.fn.cells.items ++ take l.i l.row;
  capacity : vec_capacity l.cells ≡ vec_capacity l.fn.cells;
  ticked : l.meter ≡ l.fn.meter + l.i;
}
