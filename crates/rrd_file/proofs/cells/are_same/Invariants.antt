use Rattle.rrd_file.proofs.Common.{◌≡◌, take, true}
use Rattle.rrd_file.proofs.cells.are_same.Given as goal

abbrev pub invariant-loop-i : goal.invariant-loop-i
invariant-loop-i l = l.same ≡ true → take l.i l.bytes ≡ take l.i l.others
