use Rattle.rrd_tool.proofs.Common.{◌≡◌, ◌≤◌, ◌+◌, ◌*◌, ◌++◌, codes, length, take, names_text}
use Rattle.rrd_tool.proofs.commands.fetch.header_string.Given as goal

abbrev pub invariant-loop-source : goal.invariant-loop-source
invariant-loop-source l =
    (l.line.bytes ≡ codes "time:" ++ names_text (take l.source l.database.content.sources))
    × (length l.line.bytes ≤ 5 + 20 * l.source)
