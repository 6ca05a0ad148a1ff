use Rattle.rrd_change.proofs.Common.{length, ◌-◌, ◌≤◌, max, IsMadeTo, StaysFirst, Moves, Steps, seen}
use Rattle.rrd_change.proofs.creation.write_pieces.Given as goal

abbrev pub invariant-loop-at : goal.invariant-loop-at
invariant-loop-at g l = record {
  high : 16 ≤ l.at;
  few : l.at ≤ max 16 (length l.new);
  moves : Steps (Moves (IsMadeTo l.at l.new) StaysFirst) (seen l.fn.syncs (g.F.Bytes.view l.fn.file)) (seen l.fn.syncs (g.F.Bytes.view l.file));
}

abbrev pub decreases-loop-at : goal.decreases-loop-at
decreases-loop-at g l = length l.new - l.at
