use Rattle.rrd_disk.proofs.Common.{IsSizedOrNot, Moves, Did, KeepsGuard}
use Rattle.rrd_disk.proofs.once.set_length.Given as goal

abbrev pub invariant-loop : goal.invariant-loop
invariant-loop g l = record {
  did : Did (Moves (IsSizedOrNot l.length) (IsSizedOrNot l.length)) (g.D.Disk.events l.fn.disk) (g.D.Disk.events l.disk);
  guard : KeepsGuard (g.D.Disk.events l.fn.disk) (g.D.Disk.events l.disk);
}
