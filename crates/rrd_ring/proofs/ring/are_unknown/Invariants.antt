use Rattle.rrd_ring.proofs.Common.{◌≡◌, replicate, take, Unknown}
use Rattle.rrd_ring.proofs.ring.are_unknown.Given as goal

abbrev pub invariant-loop-i : goal.invariant-loop-i
invariant-loop-i l = take l.i l.cells ≡ replicate l.i Unknown
