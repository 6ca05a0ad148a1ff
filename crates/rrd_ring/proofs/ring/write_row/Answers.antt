use Rattle.std.proofs.lemmas.Grind.{common_steps}
use Rattle.rrd_ring.proofs.Common.{arith, Unknown, copied_more}
use Rattle.rrd_ring.proofs.ring.write_row.Goals as goal

pub loop-i-preserved : goal.loop-i-preserved
loop-i-preserved c = grind (arith, common_steps, copied_more c.args.cells.now c.args.row.now c.loop-i.i Unknown c.loop-i-test.true)
