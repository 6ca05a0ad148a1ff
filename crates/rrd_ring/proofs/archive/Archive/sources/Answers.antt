use Rattle.std.proofs.lemmas.Grind.{common_steps}
use Rattle.rrd_ring.proofs.Common.{HasWidth-ring_rows, arith}
use Rattle.rrd_ring.proofs.archive.Archive.sources.Goals as goal

pub returns-clause-each_row : goal.returns-clause-each_row
returns-clause-each_row c = grind (arith, common_steps, HasWidth-ring_rows)
