use Rattle.rrd_base.proofs.Common.{◌≡◌, ◌++◌, take, drop, vec_len, put_back_each}
use Rattle.rrd_base.proofs.archives.put_back_all.Given as goal

abbrev pub invariant-loop-old : goal.invariant-loop-old
invariant-loop-old l = record {
  left : l.saved.items ≡ take (vec_len l.saved) l.initial.saved.items;
  value : l.archives ≡ take (vec_len l.saved) l.fn.archives ++ put_back_each (drop (vec_len l.saved) l.fn.archives) (drop (vec_len l.saved) l.initial.saved.items);
}

abbrev pub decreases-loop-old : goal.decreases-loop-old
decreases-loop-old l = vec_len l.saved
