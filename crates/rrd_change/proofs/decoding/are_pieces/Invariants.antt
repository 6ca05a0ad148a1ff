use Rattle.rrd_change.proofs.Common.{◌-◌, ◌≤◌, drop, length, HasPieces}
use Rattle.rrd_change.proofs.decoding.are_pieces.Given as goal

abbrev pub invariant-loop : goal.invariant-loop
invariant-loop l = record {
  few : l.at ≤ length l.bytes;
  yes : HasPieces (l.count - l.counter) l.end (drop l.at l.bytes) → HasPieces l.count l.end l.bytes;
  no : HasPieces l.count l.end l.bytes → HasPieces (l.count - l.counter) l.end (drop l.at l.bytes);
}
