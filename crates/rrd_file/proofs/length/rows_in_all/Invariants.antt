use Rattle.rrd_file.proofs.Common.{◌≡◌, ◌*◌, ◌≤◌, take, sum_by, rows_of}
use Rattle.rrd_file.proofs.length.rows_in_all.Given as goal

abbrev pub invariant-loop-archive : goal.invariant-loop-archive
invariant-loop-archive l = record {
  counted : l.rows ≡ sum_by rows_of (take l.archive l.database.content.archives);
  few : l.rows ≤ l.archive * 1000000;
}
