use Rattle.std.proofs.Common.{◌≡◌, ◌+◌, ◌++◌, take, drop}
use Rattle.rrd_ring.proofs.ring.write_row.Given as goal

abbrev pub invariant-loop-i : goal.invariant-loop-i
invariant-loop-i l = record {
  written : l.row ≡ take l.i l.cells ++ drop l.i l.fn.row;
  ticked : l.meter ≡ l.fn.meter + l.i;
}
