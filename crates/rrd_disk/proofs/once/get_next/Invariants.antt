use Rattle.rrd_disk.proofs.Common.{◌≡◌, ◌≤◌, ◌<◌, ◌-◌, length, IsTrue, Rests, World, is_honest_after, KeepsGuard}
use Rattle.rrd_disk.proofs.once.get_next.Given as goal

abbrev pub invariant-loop-count : goal.invariant-loop-count
invariant-loop-count g l = record {
  few : l.count ≤ length l.bytes;
  long : length l.bytes ≡ length l.fn.bytes;
  rests : Rests (g.D.Disk.events l.fn.disk) (g.D.Disk.events l.disk);
  guard : KeepsGuard (g.D.Disk.events l.fn.disk) (g.D.Disk.events l.disk);
  none : 0 < l.count → (s : World) → IsTrue (is_honest_after s (g.D.Disk.events l.disk)) → ⊥;
}

abbrev pub decreases-loop-count : goal.decreases-loop-count
decreases-loop-count g l = length l.initial.bytes - l.count
