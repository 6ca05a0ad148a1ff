use Rattle.rrd_file.proofs.Common.{◌≡◌, ◌+◌, ℕ, get_or, All, IsBeside, ArePutBefore}
use Rattle.rrd_file.proofs.encoded.put_all_slots.Given as goal

abbrev pub invariant-loop-archive : goal.invariant-loop-archive
invariant-loop-archive l = record {
  put : ArePutBefore l.cells l.database.content l.last l.at l.archive;
  same : (k : ℕ) → All (IsBeside (l.before + k)) l.changed.items → get_or l.cells k 0 ≡ get_or l.fn.cells k 0;
}
