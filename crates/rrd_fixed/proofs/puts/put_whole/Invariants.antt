use Rattle.std.proofs.Common.{◌≡◌, ◌+◌, ◌≤◌, ◌++◌, length, drop, decimal}
use Rattle.rrd_fixed.proofs.puts.put_whole.Given as goal

abbrev pub invariant-loop-left : goal.invariant-loop-left
invariant-loop-left l =
    (l.at ≤ l.end) × (length (decimal l.left) ≤ l.at) × (length l.buffer ≡ length l.fn.buffer)
    × (l.at + length (decimal l.number) ≡ l.end + length (decimal l.left))
    × (decimal l.left ++ drop l.at l.buffer ≡ decimal l.number ++ drop l.end l.fn.buffer)

abbrev pub decreases-loop-left : goal.decreases-loop-left
decreases-loop-left l = l.left
