use Rattle.rrd_file.proofs.Common.{map, take, flat_map, Head, head_of, head_pieces, spelled, Adds}
use Rattle.rrd_file.proofs.archive.write_heads.Given as goal

abbrev pub invariant-loop-archive : goal.invariant-loop-archive
invariant-loop-archive g l =
    Adds g.W.Write.contents l.fn.out l.out (flat_map (λ (head : Head). spelled (head_pieces head)) (take l.archive (map head_of l.database.content.archives)))
