use Rattle.rrd_change.proofs.Common.{◌≡◌, ◌++◌, length, take, flat_map, piece_bytes, AreSpans, pieces_of}
use Rattle.rrd_change.proofs.encoding.push_pieces.Given as goal

abbrev pub invariant-loop-number : goal.invariant-loop-number
invariant-loop-number l = record {
  pushed : l.buffer.items ≡ l.fn.buffer.items ++ flat_map piece_bytes (pieces_of l.bytes (take l.number l.spans));
  within : AreSpans (length l.bytes) (take l.number l.spans);
}
