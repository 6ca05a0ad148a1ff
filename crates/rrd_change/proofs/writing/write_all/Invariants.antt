use Rattle.rrd_change.proofs.Common.{length, ◌-◌, ◌≤◌, AreAny, IsFrontPut, Moves, Steps, seen}
use Rattle.rrd_change.proofs.writing.write_all.Given as goal

abbrev pub invariant-loop-done : goal.invariant-loop-done
invariant-loop-done g l = record {
  few : l.done ≤ length l.bytes;
  moves : Steps (Moves (IsFrontPut l.at l.done l.bytes) (AreAny l.at (length l.bytes))) (seen l.fn.syncs (g.F.Bytes.view l.fn.file)) (seen l.fn.syncs (g.F.Bytes.view l.file));
}

abbrev pub decreases-loop-done : goal.decreases-loop-done
decreases-loop-done g l = length l.bytes - l.done
