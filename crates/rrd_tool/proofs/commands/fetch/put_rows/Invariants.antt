use Rattle.rrd_tool.proofs.Common.{◌≡◌, ◌≤◌, ◌-◌, ◌*◌, ◌++◌, drop, length, row_of, texts_below, row_room}
use Rattle.rrd_tool.proofs.commands.fetch.put_rows.Given as goal

abbrev pub invariant-loop-row : goal.invariant-loop-row
invariant-loop-row l =
    (l.from ≤ l.row) × (l.row ≤ l.to) × ((l.row - l.from) * row_room (length l.database.content.sources) ≤ l.at)
    × (l.at ≤ length l.buffer) × (length l.buffer ≡ length l.fn.buffer)
    × (texts_below (row_of l.database.content l.chosen) l.row ++ drop l.at l.buffer ≡ texts_below (row_of l.database.content l.chosen) l.to)

abbrev pub decreases-loop-row : goal.decreases-loop-row
decreases-loop-row l = l.row - l.from
