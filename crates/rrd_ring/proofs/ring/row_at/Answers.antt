use Rattle.std.proofs.lemmas.Grind.{common_steps}
use Rattle.rrd_ring.proofs.Common.{arith, row_fits, whole_row}
use Rattle.rrd_ring.proofs.ring.row_at.Goals as goal

pub row_from-requires-clause-whole : goal.row_from-requires-clause-whole
row_from-requires-clause-whole c = grind (arith, common_steps, whole_row c.args.sources c.args.index c.args.cells.now c.requires.whole)

pub returns : goal.returns
returns c = grind (arith, common_steps, row_fits c.args.index)
