use Rattle.rrd_file.proofs.Common.{◌≡◌, ◌+◌, ◌*◌, ◌++◌, length, take, AllByRecursion, flat_map, IsBounded, cell_bytes}
use Rattle.rrd_file.proofs.cells.cells_of.Given as goal

abbrev pub invariant-loop-i : goal.invariant-loop-i
invariant-loop-i l = record {
  spelled : l.bytes ≡ flat_map cell_bytes (take l.i l.cells) ++ l.rest;
  room : length l.rest + 16 * l.i ≡ 16 * length l.cells;
  bounded : AllByRecursion IsBounded (take l.i l.cells);
}
