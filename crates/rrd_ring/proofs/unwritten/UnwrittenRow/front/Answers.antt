use Rattle.rrd_ring.proofs.Common.{◌∙◌, ap, take, arith, Unknown, take-replicate}
use Rattle.rrd_ring.proofs.unwritten.UnwrittenRow.front.Goals as goal

pub returns : goal.returns
returns c = ap (take c.args.count) (c.as_slice.ensures ∙ c.self.invariant) ∙ take-replicate c.args.count _ Unknown (omega (arith, c.requires, c.self.view_is))
