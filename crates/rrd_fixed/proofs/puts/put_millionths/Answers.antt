use Rattle.rrd_fixed.proofs.Common.{arith, append_assoc, puts_before, puts_byte, six_wide, common_steps}
use Rattle.rrd_fixed.proofs.puts.put_millionths.Goals as goal

pub overflow_sub-point : goal.overflow_sub-point
overflow_sub-point c = grind (arith, common_steps, six_wide)

pub put_whole-requires-clause-room : goal.put_whole-requires-clause-room
put_whole-requires-clause-room c = grind (arith, common_steps, six_wide)

pub returns : goal.returns
returns c = grind (arith, common_steps, six_wide, puts_byte, puts_before, append_assoc)
