use Rattle.rrd_file.proofs.Common.{◌≡◌, ◌++◌, replicate}
use Rattle.rrd_file.proofs.writer.block.Block.zeros.Given as goal

abbrev pub invariant-loop : goal.invariant-loop
invariant-loop l = l.self ≡ l.fn.self ++ replicate l.counter 0
