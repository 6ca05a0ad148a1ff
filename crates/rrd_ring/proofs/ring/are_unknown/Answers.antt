use Rattle.std.proofs.lemmas.Grind.{common_steps}
use Rattle.rrd_ring.proofs.Common.{arith, take_all, replicate-append-replicate, take_more}
use Rattle.rrd_ring.proofs.ring.are_unknown.Goals as goal

pub loop-i-preserved : goal.loop-i-preserved
loop-i-preserved c = grind (arith, common_steps, take_more, replicate-append-replicate)

pub returns : goal.returns
returns c = grind (arith, common_steps, take_all)
