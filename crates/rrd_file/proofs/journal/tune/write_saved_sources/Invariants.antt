use Rattle.rrd_file.proofs.Common.{map, take, flat_map, OfSavedSource, spell, Adds}
use Rattle.rrd_file.proofs.journal.tune.write_saved_sources.Given as goal

abbrev pub invariant-loop-i : goal.invariant-loop-i
invariant-loop-i g l =
    Adds g.W.Write.contents l.fn.out l.out (flat_map spell (take l.i (map OfSavedSource l.olds)))
