use Rattle.std.proofs.lemmas.Grind.{common_steps}
use Rattle.rrd_ring.proofs.Common.{arith, cases_lt, take_rest, written_from}
use Rattle.rrd_ring.proofs.ring.write_from.Goals as goal

pub returns : goal.returns
returns c = grind (arith, common_steps, cases_lt, take_rest, written_from)
