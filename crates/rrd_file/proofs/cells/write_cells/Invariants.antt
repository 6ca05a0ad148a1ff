use Rattle.rrd_file.proofs.Common.{map, take, flat_map, Rra, cells_by_slot, spelled, OfCell, Adds}
use Rattle.rrd_file.proofs.cells.write_cells.Given as goal

abbrev pub invariant-loop-archive : goal.invariant-loop-archive
invariant-loop-archive g l =
    let d = l.database.content in
    Adds g.W.Write.contents l.fn.out l.out (flat_map (λ (a : Rra). spelled (map OfCell (cells_by_slot d.step d.last a))) (take l.archive d.archives))
