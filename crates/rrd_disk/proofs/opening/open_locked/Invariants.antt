use Rattle.rrd_disk.proofs.Common.{RestsFor}
use Rattle.rrd_disk.proofs.opening.open_locked.Given as goal

abbrev pub invariant-loop : goal.invariant-loop
invariant-loop g l = RestsFor l.fn.opening (g.D.Disk.events l.fn.disk) (g.D.Disk.events l.disk)
