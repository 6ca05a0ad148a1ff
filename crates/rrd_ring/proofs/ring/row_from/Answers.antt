use Rattle.rrd_ring.proofs.Common.{◌∙◌}
use Rattle.rrd_ring.proofs.WrittenLemmas.{row_unwritten}
use Rattle.rrd_ring.proofs.ring.row_from.Goals as goal

pub returns : goal.returns
returns c = λ all fits. c.front.ensures ∙ row_unwritten all c.args.start c.args.count c.args.cells.now c.if-start-cells.false fits
