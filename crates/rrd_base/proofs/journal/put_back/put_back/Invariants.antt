use Rattle.rrd_base.proofs.Common.{◌≡◌, take, with_kept}
use Rattle.rrd_base.proofs.journal.put_back.put_back.Given as goal

abbrev pub invariant-loop-old : goal.invariant-loop-old
invariant-loop-old g l = l.all ≡ with_kept g.T.Kept.kept l.fn.all (take l.old-index l.olds)
