use Rattle.rrd_fixed.proofs.Common.{◌≡◌, ◌≤◌, ◌-◌, length, take, true, is_ascii_digit, list_all, value_of}
use Rattle.rrd_fixed.proofs.number.read_front.Given as goal

abbrev pub invariant-loop-at : goal.invariant-loop-at
invariant-loop-at l = (l.at ≤ length l.bytes) × (list_all is_ascii_digit (take l.at l.bytes) ≡ true) × (l.value ≡ value_of (take l.at l.bytes))

abbrev pub decreases-loop-at : goal.decreases-loop-at
decreases-loop-at l = length l.bytes - l.at
