use Rattle.rrd_file.proofs.Common.{◌≡◌, ◌+◌, ◌*◌, ◌++◌, length, replicate, flat_map, Unknown, cell_bytes}
use Rattle.rrd_file.proofs.cells.unknown_blocks.Given as goal

abbrev pub invariant-loop-rest : goal.invariant-loop-rest
invariant-loop-rest l = record {
  spelled : l.bytes ≡ flat_map cell_bytes (replicate l.count Unknown) ++ l.rest;
  room : length l.rest + 16 * l.count ≡ length l.bytes;
}

abbrev pub decreases-loop-rest : goal.decreases-loop-rest
decreases-loop-rest l = length l.rest
