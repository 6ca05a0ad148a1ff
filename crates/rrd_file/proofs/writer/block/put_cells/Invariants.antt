use Rattle.rrd_file.proofs.Common.{◌≡◌, ◌*◌, ◌++◌, drop, take, flat_map, cell_bytes}
use Rattle.rrd_file.proofs.writer.block.put_cells.Given as goal

abbrev pub invariant-loop-i : goal.invariant-loop-i
invariant-loop-i l = l.into ≡ flat_map cell_bytes (take l.i l.cells) ++ drop (16 * l.i) l.fn.into
