use Rattle.rrd_change.proofs.Common.{take, AreAnyIn, ArePutIn, Moves, Steps, seen}
use Rattle.rrd_change.proofs.log.place.Given as goal

abbrev pub invariant-loop-number : goal.invariant-loop-number
invariant-loop-number g l =
    Steps (Moves (ArePutIn (take l.number l.spans) l.new) (AreAnyIn l.spans l.new)) (seen l.fn.syncs (g.F.Bytes.view l.fn.file)) (seen l.fn.syncs (g.F.Bytes.view l.file))
