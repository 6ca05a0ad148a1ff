use Rattle.rrd_file.proofs.Common.{sym, subst, map, arith, Rra, cells_by_slot, spelled, OfCell, Adds, there, cells_spelled, err_from_is_err_and, all_added, item_added, item_broken}
use Rattle.rrd_file.proofs.cells.write_cells.Goals as goal

pub returns-in_err-write_slots : goal.returns-in_err-write_slots
returns-in_err-write_slots g c =
    let p = err_from_is_err_and c.from_residual.result c.from_residual.ensures.1 in
    let d = c.args.database.now.content in
    let found = there d.archives c.loop-archive.archive (omega (arith, c.archives-archive-end.ensures.count, c.loop-archive-test.true)) in
    rw (p.1, cells_spelled (cells_by_slot d.step d.last) d.archives) (item_broken (λ (a : Rra). spelled (map OfCell (cells_by_slot d.step d.last a))) (d.archives) c.loop-archive.archive (found.0) (found.1) (c.loop-archive.invariant) (c.in_err-write_slots.ensures found.0 found.1))

pub loop-archive-preserved : goal.loop-archive-preserved
loop-archive-preserved g c =
    let d = c.args.database.now.content in
    let found = there d.archives c.loop-archive.archive (omega (arith, c.archives-archive-end.ensures.count, c.loop-archive-test.true)) in
    item_added (λ (a : Rra). spelled (map OfCell (cells_by_slot d.step d.last a))) (d.archives) c.loop-archive.archive (found.0) (found.1) (c.loop-archive.invariant) (c.in_ok-write_slots.ensures found.0 found.1)

pub returns : goal.returns
returns g c =
    let d = c.args.database.now.content in
    subst (Adds _ _ _) (sym (cells_spelled (cells_by_slot d.step d.last) d.archives)) (all_added (λ (a : Rra). spelled (map OfCell (cells_by_slot d.step d.last a))) (d.archives) c.loop-archive.archive (omega (arith, c.archives-archive-end.ensures.count, c.loop-archive-test.false)) (c.loop-archive.invariant))
