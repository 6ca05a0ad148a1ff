use Rattle.rrd_tool.proofs.Common.{List, ℕ, ◌++◌, take, Buffers}
use Rattle.rrd_tool.proofs.lines.LineBuffer.extend.Given as goal

abbrev pub invariant-loop-byte : goal.invariant-loop-byte
invariant-loop-byte l = (unfinished : List ℕ) → Buffers l.fn.self unfinished → Buffers l.self (unfinished ++ take l.byte-index l.bytes)
