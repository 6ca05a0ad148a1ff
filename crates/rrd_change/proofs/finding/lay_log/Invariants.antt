use Rattle.rrd_change.proofs.Common.{◌-◌, length, IsPartRead}
use Rattle.rrd_change.proofs.finding.lay_log.Given as goal

abbrev pub invariant-loop-head : goal.invariant-loop-head
invariant-loop-head l = IsPartRead l.fn.database l.bytes l.database l.spans.items l.done l.changes l.size

abbrev pub decreases-loop-head : goal.decreases-loop-head
decreases-loop-head l = length l.bytes - l.done
