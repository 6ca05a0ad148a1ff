use Rattle.rrd_base.proofs.Common.{◌≡◌, ◌*◌, ◌≤◌, take, cells_saved}
use Rattle.rrd_base.proofs.journal.count_cells.Given as goal

abbrev pub invariant-loop-archive : goal.invariant-loop-archive
invariant-loop-archive l = record {
  counted : l.cells ≡ cells_saved (take l.archive-index l.archives);
  few : l.cells ≤ l.archive-index * 64000000;
}
