use Rattle.rrd_file.proofs.Common.{◌≡◌, ◌-◌, length, Keeps, left}
use Rattle.rrd_file.proofs.reader.PieceReader.wait_for.Given as goal

abbrev pub invariant-loop-self : goal.invariant-loop-self
invariant-loop-self g l = Keeps (left l.initial.self) (left l.self) × (l.self.at ≡ l.initial.self.at)

abbrev pub decreases-loop-self : goal.decreases-loop-self
decreases-loop-self g l = l.size - length l.self.waiting
