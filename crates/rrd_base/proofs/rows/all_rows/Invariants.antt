use Rattle.std.proofs.Common.{◌≡◌, ◌-◌, ◌^◌, min, map, sum, take}
use Rattle.rrd_base.proofs.rows.all_rows.Given as goal

abbrev pub invariant-loop-archive : goal.invariant-loop-archive
invariant-loop-archive g l = l.rows ≡ min (sum (map g.T.HasRows.rows_of (take l.archive-index l.archives))) (2 ^ 64 - 1)
