use Rattle.rrd_file.proofs.Common.{◌∙◌, Some, ap, sym, map, arith, length-map, SavedSource, OfSavedSource, spell, err_from_is_err_and, all_added, item_added, item_at, item_broken, mapped_at}
use Rattle.rrd_file.proofs.journal.tune.write_saved_sources.Goals as goal

pub returns-in_err-write_saved_source : goal.returns-in_err-write_saved_source
returns-in_err-write_saved_source g c =
    let p = err_from_is_err_and c.from_residual.result c.from_residual.ensures.1 in
    rw p.1 (item_broken (spell) (map OfSavedSource c.args.olds.now) c.loop-i.i (_) (mapped_at OfSavedSource c.args.olds.now c.loop-i.i _ (item_at c.args.olds.now c.loop-i.i c.index-olds-i.result c.loop-i-test.true ∙ ap (λ (x : SavedSource). Some x) (sym c.index-olds-i.is))) (c.loop-i.invariant) c.in_err-write_saved_source.ensures)

pub loop-i-preserved : goal.loop-i-preserved
loop-i-preserved g c =
    item_added (spell) (map OfSavedSource c.args.olds.now) c.loop-i.i (_) (mapped_at OfSavedSource c.args.olds.now c.loop-i.i _ (item_at c.args.olds.now c.loop-i.i c.index-olds-i.result c.loop-i-test.true ∙ ap (λ (x : SavedSource). Some x) (sym c.index-olds-i.is))) (c.loop-i.invariant) c.in_ok-write_saved_source.ensures

pub returns : goal.returns
returns g c =
    all_added (spell) (map OfSavedSource c.args.olds.now) c.loop-i.i (omega (arith, c.loop-i-test.false, length-map c.args.olds.now OfSavedSource)) (c.loop-i.invariant)
