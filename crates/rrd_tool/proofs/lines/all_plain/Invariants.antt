use Rattle.rrd_tool.proofs.Common.{◌≡◌, take, list_all, is_plain}
use Rattle.rrd_tool.proofs.lines.all_plain.Given as goal

abbrev pub invariant-loop-byte : goal.invariant-loop-byte
invariant-loop-byte l = l.plain ≡ list_all is_plain (take l.byte-index l.bytes)
