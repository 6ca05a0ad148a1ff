use Rattle.rrd_file.proofs.Common.{take, flat_map, SavedArchive, saved_pieces, spelled, Adds}
use Rattle.rrd_file.proofs.journal.update.write_all_saved.Given as goal

abbrev pub invariant-loop-i : goal.invariant-loop-i
invariant-loop-i g l =
    Adds g.W.Write.contents l.fn.out l.out (flat_map (λ (old : SavedArchive). spelled (saved_pieces old)) (take l.i l.saved))
