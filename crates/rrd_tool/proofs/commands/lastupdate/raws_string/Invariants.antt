use Rattle.rrd_tool.proofs.Common.{◌≡◌, ◌≤◌, ◌+◌, ◌*◌, ◌++◌, codes, length, pos, time_text, texts_below, raw_at}
use Rattle.rrd_tool.proofs.commands.lastupdate.raws_string.Given as goal

abbrev pub invariant-loop-source : goal.invariant-loop-source
invariant-loop-source l =
    (l.line.bytes ≡ time_text (pos l.database.content.last) ++ codes ":" ++ texts_below (raw_at l.database.content) l.source)
    × (length l.line.bytes ≤ 41 + 49 * l.source)
