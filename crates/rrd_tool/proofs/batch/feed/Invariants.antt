use Rattle.rrd_tool.proofs.Common.{GoesOnBy, List, ℕ, take, length, ◌≤◌, ◌+◌, ◌-◌, Buffers, last_part, whole_lines, MovesRan}
use Rattle.rrd_tool.proofs.batch.feed.Given as goal

abbrev pub invariant-loop-length : goal.invariant-loop-length
invariant-loop-length g l = ((unfinished : List ℕ) → Buffers l.fn.line unfinished
    → MovesRan l.context.now l.fn.batch.database l.batch.database l.fn.batch.refusals l.batch.refusals
    (g.W.Write.contents l.fn.out) (g.W.Write.contents l.out) (whole_lines unfinished (take l.from l.bytes))
    × Buffers l.line (last_part unfinished (take l.from l.bytes)))
    × (l.batch.refusals.lines ≤ l.fn.batch.refusals.lines + l.from)
    × (l.from ≤ length l.bytes)
    × GoesOnBy l.fn.batch.changed_by l.batch.changed_by l.fn.batch.database l.batch.database

abbrev pub decreases-loop-length : goal.decreases-loop-length
decreases-loop-length g l = length l.bytes - l.from
