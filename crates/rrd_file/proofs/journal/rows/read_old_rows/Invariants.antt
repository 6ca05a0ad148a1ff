use Rattle.rrd_file.proofs.Common.{Rowed}
use Rattle.rrd_file.proofs.journal.rows.read_old_rows.Given as goal

abbrev pub invariant-loop-i : goal.invariant-loop-i
invariant-loop-i g l = Rowed l.build l.count l.fn.input l.i l.rows l.input
