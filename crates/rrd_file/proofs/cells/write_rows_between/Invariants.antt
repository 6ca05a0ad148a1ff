use Rattle.rrd_file.proofs.Common.{◌≤◌, ◌-◌, drop, take, row_pieces, spelled, Adds}
use Rattle.rrd_file.proofs.cells.write_rows_between.Given as goal

abbrev pub invariant-loop-index : goal.invariant-loop-index
invariant-loop-index g l = record {
  after : l.from ≤ l.index;
  most : l.index - l.from ≤ l.to - l.from;
  added : Adds g.W.Write.contents l.fn.out l.out (spelled (row_pieces (take (l.index - l.from) (drop l.from (g.T.Table.table l.rows)))));
}

abbrev pub decreases-loop-index : goal.decreases-loop-index
decreases-loop-index g l = l.to - l.index
