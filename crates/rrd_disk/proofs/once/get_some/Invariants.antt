use Rattle.rrd_disk.proofs.Common.{◌≡◌}
use Rattle.rrd_disk.proofs.once.get_some.Given as goal

abbrev pub invariant-loop : goal.invariant-loop
invariant-loop g l = g.D.Disk.events l.disk ≡ g.D.Disk.events l.fn.disk
