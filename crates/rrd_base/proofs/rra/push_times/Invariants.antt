use Rattle.rrd_base.proofs.Common.{◌≡◌, ◌+◌, ◌*◌, ◌++◌, replicate, length, HasWidth, keep_last}
use Rattle.rrd_base.proofs.rra.push_times.Given as goal

abbrev pub invariant-loop-i : goal.invariant-loop-i
invariant-loop-i l = record {
  rows : l.rows ≡ keep_last (length l.fn.rows) (l.fn.rows ++ replicate l._i l.row);
  count : length l.rows ≡ length l.fn.rows;
  wide : HasWidth (length l.row) l.rows;
  turns : l.meter ≡ l.fn.meter + length l.row * l._i;
}
