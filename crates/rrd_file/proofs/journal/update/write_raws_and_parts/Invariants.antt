use Rattle.rrd_file.proofs.Common.{take, flat_map, raws_and_parts, spell, Adds}
use Rattle.rrd_file.proofs.journal.update.write_raws_and_parts.Given as goal

abbrev pub invariant-loop-i : goal.invariant-loop-i
invariant-loop-i g l =
    Adds g.W.Write.contents l.fn.out l.out (flat_map spell (take l.i (raws_and_parts l.raws l.preps)))
