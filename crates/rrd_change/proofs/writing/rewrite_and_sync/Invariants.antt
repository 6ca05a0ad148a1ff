use Rattle.rrd_change.proofs.Common.{◌-◌, ◌≤◌, max, Restores, Steps, seen}
use Rattle.rrd_change.proofs.writing.rewrite_and_sync.Given as goal

abbrev pub invariant-loop-at : goal.invariant-loop-at
invariant-loop-at g l = record {
  low : l.from ≤ l.at;
  few : l.at ≤ max l.from l.end;
  restores : Steps (Restores l.from l.at) (seen l.fn.syncs (g.F.Bytes.view l.fn.file)) (seen l.fn.syncs (g.F.Bytes.view l.file));
}

abbrev pub decreases-loop-at : goal.decreases-loop-at
decreases-loop-at g l = l.end - l.at
