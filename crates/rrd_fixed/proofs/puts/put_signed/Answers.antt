use Rattle.rrd_fixed.proofs.Common.{arith, millionths_short, puts_byte, signed_minus, common_steps}
use Rattle.std.proofs.Common.{to_z-of_z}
use Rattle.rrd_fixed.proofs.puts.put_signed.Goals as goal

pub overflow_sub-buffer : goal.overflow_sub-buffer
overflow_sub-buffer c = grind (arith, common_steps, millionths_short)

pub overflow_sub-result : goal.overflow_sub-result
overflow_sub-result c = grind (arith, common_steps, millionths_short)

pub returns-clause-text : goal.returns-clause-text
returns-clause-text c = grind (arith, common_steps, millionths_short, to_z-of_z, signed_minus, puts_byte)

pub returns-clause-short : goal.returns-clause-short
returns-clause-short c = grind (arith, common_steps, millionths_short)

pub returns-then-millionths-ge0-clause-short : goal.returns-then-millionths-ge0-clause-short
returns-then-millionths-ge0-clause-short c = grind (arith, common_steps, millionths_short)
