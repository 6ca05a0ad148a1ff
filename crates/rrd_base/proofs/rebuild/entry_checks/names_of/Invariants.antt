use Rattle.rrd_base.proofs.Common.{◌≡◌, take, array_vec_len, names}
use Rattle.rrd_base.proofs.rebuild.entry_checks.names_of.Given as goal

abbrev pub invariant-loop-source : goal.invariant-loop-source
invariant-loop-source l = record {
  names_are : l.all.items ≡ names (take l.source-index l.sources);
  count : array_vec_len l.all ≡ l.source-index;
}
