use Rattle.rrd_base.proofs.Common.{◌≡◌, List, drop, Given, value_for}
use Rattle.rrd_base.proofs.columns.index_named.Given as goal

abbrev pub invariant-loop-index : goal.invariant-loop-index
invariant-loop-index l = (values : List Given) → value_for (drop l.index l.names) (drop l.index values) l.source ≡ value_for l.names values l.source
