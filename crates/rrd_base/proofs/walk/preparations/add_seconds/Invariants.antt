use Rattle.rrd_base.proofs.Common.{◌≡◌, ◌+◌, ◌++◌, take, drop, replicate, fold, Average, map_each}
use Rattle.rrd_fold.specs.Parts.{with_cell}
use Rattle.rrd_base.proofs.walk.preparations.add_seconds.Given as goal

abbrev pub invariant-loop-i : goal.invariant-loop-i
invariant-loop-i l = record {
  added : l.preps ≡ map_each (λ p c. fold (with_cell Average) p (replicate l.seconds c)) (take l.i l.fn.preps) (take l.i l.rates) ++ drop l.i l.fn.preps;
  ticked : l.meter ≡ l.fn.meter + l.i;
}
