use Rattle.std.proofs.lemmas.Grind.{common_steps}
use Rattle.rrd_file.proofs.Common.{arith, take_all, take_more}
use Rattle.rrd_file.proofs.cells.are_same.Goals as goal

pub loop-i-preserved : goal.loop-i-preserved
loop-i-preserved c = grind (arith, common_steps, take_more)

pub returns : goal.returns
returns c = grind (arith, common_steps, take_all)
