use Rattle.rrd_disk.proofs.Common.{◌-◌, ◌≤◌, length, IsTrue, Rests, World, bytes_after, is_honest_after, KeepsGuard, IsGotSoFar}
use Rattle.rrd_disk.proofs.once.get.Given as goal

abbrev pub invariant-loop-count : goal.invariant-loop-count
invariant-loop-count g l = record {
  few : l.count ≤ length l.bytes;
  rests : Rests (g.D.Disk.events l.fn.disk) (g.D.Disk.events l.disk);
  guard : KeepsGuard (g.D.Disk.events l.fn.disk) (g.D.Disk.events l.disk);
  got : (s : World) → IsTrue (is_honest_after s (g.D.Disk.events l.disk)) → IsGotSoFar (bytes_after s (g.D.Disk.events l.fn.disk)) l.at l.count l.bytes;
}

abbrev pub decreases-loop-count : goal.decreases-loop-count
decreases-loop-count g l = length l.initial.bytes - l.count
