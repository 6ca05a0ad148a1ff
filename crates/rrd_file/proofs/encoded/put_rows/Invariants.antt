use Rattle.rrd_file.proofs.Common.{◌≡◌, ◌-◌, ◌*◌, ◌<◌, ◌≤◌, ℕ, get_or, ArePut}
use Rattle.rrd_file.proofs.encoded.put_rows.Given as goal

-- the rows below the index are there; the bytes of the rows below the first that was written stay
abbrev pub invariant-loop-index : goal.invariant-loop-index
invariant-loop-index g l = record {
  put : ArePut l.into (g.T.Table.table l.rows) l.sources l.from l.to l.index;
  same : (k : ℕ) → k < l.stays → get_or l.into k 0 ≡ get_or l.fn.into k 0;
  later : l.stays ≤ 16 * ((l.index - l.from) * l.sources);
}

abbrev pub decreases-loop-index : goal.decreases-loop-index
decreases-loop-index g l = l.to - l.index
