use Rattle.rrd_base.proofs.Common.{sym, ◌∙◌, false, arith, value_at}
use Rattle.rrd_base.proofs.columns.index_named.Goals as goal

pub loop-index-preserved : goal.loop-index-preserved
loop-index-preserved c = λ values. sym (value_at c.args.names.now values c.loop-index.index c.index-names-index.result c.args.source.now false (omega arith) c.index-names-index.is (sym c.same.ensures ∙ c.if-same.false)) ∙ c.loop-index.invariant values
