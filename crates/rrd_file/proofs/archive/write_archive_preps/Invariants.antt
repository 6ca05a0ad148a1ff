use Rattle.rrd_file.proofs.Common.{◌≡◌, Some, map, take, slice_get, flat_map, Rra, OfPrep, spell, Adds}
use Rattle.rrd_file.proofs.archive.write_archive_preps.Given as goal

abbrev pub invariant-loop-source : goal.invariant-loop-source
invariant-loop-source g l =
    (a : Rra) → slice_get l.database.content.archives l.archive ≡ Some a
    → Adds g.W.Write.contents l.fn.out l.out (flat_map spell (take l.source (map OfPrep a.parts)))
