use Rattle.rrd_change.proofs.Common.{ℕ, [], ◌∷◌, ◌++◌, take, IsIn}
use Rattle.rrd_change.proofs.uniting.united.Given as goal

abbrev pub invariant-loop-number : goal.invariant-loop-number
invariant-loop-number l = record {
  each : (k : ℕ) → IsIn k (take l.number l.sorted.items) → IsIn k (l.all.items ++ l.last ∷ []);
  only : (k : ℕ) → IsIn k (l.all.items ++ l.last ∷ []) → IsIn k (take l.number l.sorted.items);
}
