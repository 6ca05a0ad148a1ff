use Rattle.rrd_file.proofs.Common.{map, take, flat_map, parts_in, OfPrep, spell, Adds}
use Rattle.rrd_file.proofs.archive.write_preps.Given as goal

abbrev pub invariant-loop-i : goal.invariant-loop-i
invariant-loop-i g l =
    Adds g.W.Write.contents l.fn.out l.out (flat_map spell (take l.i (map OfPrep (parts_in l.preps))))
