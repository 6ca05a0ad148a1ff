use Rattle.std.proofs.Common.{length, ◌-◌}
use Rattle.rrd_store.proofs.Compared.{IsCompared}
use Rattle.rrd_store.proofs.differing.differing.Given as goal

abbrev pub invariant-loop-start : goal.invariant-loop-start
invariant-loop-start l = IsCompared l.start l.last l.spans.items l.old l.new

abbrev pub decreases-loop-start : goal.decreases-loop-start
decreases-loop-start l = length l.new - l.start
