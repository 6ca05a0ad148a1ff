use Rattle.rrd_disk.proofs.Common.{Moves, Did, IsPartPut, KeepsGuard, AreTorn}
use Rattle.rrd_disk.proofs.once.put_some.Given as goal

abbrev pub invariant-loop : goal.invariant-loop
invariant-loop g l = record {
  did : Did (Moves (IsPartPut 0 l.at l.bytes) (AreTorn l.at l.bytes)) (g.D.Disk.events l.fn.disk) (g.D.Disk.events l.disk);
  guard : KeepsGuard (g.D.Disk.events l.fn.disk) (g.D.Disk.events l.disk);
}
