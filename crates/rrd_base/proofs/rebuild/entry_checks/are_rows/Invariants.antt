use Rattle.rrd_base.proofs.Common.{take, AllByRecursion, IsRow}
use Rattle.rrd_base.proofs.rebuild.entry_checks.are_rows.Given as goal

abbrev pub invariant-loop-number : goal.invariant-loop-number
invariant-loop-number l = AllByRecursion (IsRow l.sources) (take l.number l.rows)
