use Rattle.rrd_disk.proofs.Common.{take, AreOf}
use Rattle.rrd_disk.proofs.storage.spans_within.Given as goal

abbrev pub invariant-loop-number : goal.invariant-loop-number
invariant-loop-number l = AreOf l.count (take l.number l.changed) l.spans.items
