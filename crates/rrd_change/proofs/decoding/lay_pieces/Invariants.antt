use Rattle.rrd_change.proofs.Common.{◌≡◌, ◌-◌, ◌++◌, ℕ, length, drop, get_or, all_laid, spelled_pieces, HasPieces, spans_of}
use Rattle.rrd_change.proofs.decoding.lay_pieces.Given as goal

abbrev pub invariant-loop : goal.invariant-loop
invariant-loop l = record {
  has : HasPieces (l.count - l.counter) (length l.fn.database) (drop l.at l.bytes);
  laid : (k : ℕ) → all_laid (spelled_pieces (l.count - l.counter) (drop l.at l.bytes)) k (get_or l.database k 0) ≡ all_laid (spelled_pieces l.count l.bytes) k (get_or l.fn.database k 0);
  spans : l.spans.items ++ spans_of (spelled_pieces (l.count - l.counter) (drop l.at l.bytes)) ≡ l.fn.spans.items ++ spans_of (spelled_pieces l.count l.bytes);
}
