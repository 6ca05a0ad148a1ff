use Rattle.rrd_tool.proofs.Common.{◌≤◌, ◌-◌, Appends, row_of, texts_below}
use Rattle.rrd_tool.proofs.commands.fetch.write_rows.Given as goal

abbrev pub invariant-loop-done : goal.invariant-loop-done
invariant-loop-done g l = (l.done ≤ l.count)
    × Appends (g.W.Write.contents l.fn.out) (g.W.Write.contents l.out) (texts_below (row_of l.database.content l.chosen) l.done)

abbrev pub decreases-loop-done : goal.decreases-loop-done
decreases-loop-done g l = l.count - l.done
