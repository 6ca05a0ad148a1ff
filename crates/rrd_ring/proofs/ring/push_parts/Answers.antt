use Rattle.std.proofs.lemmas.Grind.{common_steps}
use Rattle.rrd_ring.proofs.Common.{arith, append_assoc}
use Rattle.rrd_ring.proofs.ring.push_parts.Goals as goal

pub returns : goal.returns
returns c = grind (arith, common_steps, append_assoc c.args.copies.now.items)
