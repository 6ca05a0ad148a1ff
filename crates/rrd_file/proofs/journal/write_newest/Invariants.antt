use Rattle.rrd_file.proofs.Common.{take, flat_map, Entry, entry_pieces, spelled, Adds}
use Rattle.rrd_file.proofs.journal.write_newest.Given as goal

abbrev pub invariant-loop-number : goal.invariant-loop-number
invariant-loop-number g l =
    Adds g.W.Write.contents l.fn.out l.out (flat_map (λ (entry : Entry). spelled (entry_pieces entry)) (take l.number (take l.count l.database.journal)))
