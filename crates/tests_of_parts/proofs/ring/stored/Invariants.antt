use Rattle.std.proofs.Common.{◌≡◌, length}
use Rattle.tests_of_parts.proofs.ring.stored.Given as goal

abbrev pub invariant-loop-number : goal.invariant-loop-number
invariant-loop-number l = length l.cells.items ≡ l.number-index
