use Rattle.rrd_disk.proofs.Common.{Rests}
use Rattle.rrd_disk.proofs.loading.load_pipe.Given as goal

abbrev pub invariant-loop : goal.invariant-loop
invariant-loop g l = Rests (g.D.Disk.events l.fn.file.disk) (g.D.Disk.events l.file.disk)
