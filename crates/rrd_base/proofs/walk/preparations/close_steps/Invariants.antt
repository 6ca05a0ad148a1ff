use Rattle.rrd_base.proofs.Common.{◌≡◌, ◌+◌, ◌++◌, take, drop, map, AllByRecursion, IsBounded, Part, nothing, step_cell}
use Rattle.rrd_base.proofs.walk.preparations.close_steps.Given as goal

abbrev pub invariant-loop-i : goal.invariant-loop-i
invariant-loop-i l = record {
  cells : l.cells ≡ map (step_cell l.step) (take l.i l.fn.preps) ++ drop l.i l.fn.cells;
  bounded : AllByRecursion IsBounded (take l.i l.cells);
  anew : l.preps ≡ map (λ (p : Part). nothing) (take l.i l.fn.preps) ++ drop l.i l.fn.preps;
  ticked : l.meter ≡ l.fn.meter + l.i;
}
