use Rattle.rrd_file.proofs.Common.{map, take, flat_map, sources_of, OfSource, spell, Adds}
use Rattle.rrd_file.proofs.source.write_sources.Given as goal

abbrev pub invariant-loop-number : goal.invariant-loop-number
invariant-loop-number g l =
    let d = l.database.content in
    Adds g.W.Write.contents l.fn.out l.out (flat_map spell (take l.number (map OfSource (sources_of d.sources d.raws d.parts))))
