use Rattle.rrd_base.proofs.Common.{◌≡◌, ◌+◌, ◌++◌, take, drop, map, anew, row_of}
use Rattle.rrd_base.proofs.walk.preparations.close_rows.Given as goal

abbrev pub invariant-loop-i : goal.invariant-loop-i
invariant-loop-i l = record {
  cells : l.row ≡ map (row_of l.def.xff l.def.steps) (take l.i l.fn.preps) ++ drop l.i l.fn.row;
  anew : l.preps ≡ map anew (take l.i l.fn.preps) ++ drop l.i l.fn.preps;
  ticked : l.meter ≡ l.fn.meter + l.i;
}
