use Rattle.rrd_base.proofs.Common.{◌≡◌, drop, map, is_double}
use Rattle.rrd_base.proofs.named.has_double_name.Given as goal

abbrev pub invariant-loop-index : goal.invariant-loop-index
invariant-loop-index g l = is_double (map g.T.Named.called (drop l.index l.named)) ≡ is_double (map g.T.Named.called l.named)
