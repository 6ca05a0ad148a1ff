use Rattle.rrd_file.proofs.Common.{◌∙◌, Some, ap, sym, subst, arith, SavedArchive, saved_pieces, spelled, spell, Adds, err_from_is_err_and, all_added, flat_flat, item_added, item_at, item_broken}
use Rattle.rrd_file.proofs.journal.update.write_all_saved.Goals as goal

pub returns-in_err-write_saved : goal.returns-in_err-write_saved
returns-in_err-write_saved g c =
    let p = err_from_is_err_and c.from_residual.result c.from_residual.ensures.1 in
    rw (p.1, flat_flat spell saved_pieces c.args.saved.now) (item_broken (λ (old : SavedArchive). spelled (saved_pieces old)) c.args.saved.now c.loop-i.i (_) (item_at c.args.saved.now c.loop-i.i c.index-saved-i.result c.loop-i-test.true ∙ ap (λ (x : SavedArchive). Some x) (sym c.index-saved-i.is)) (c.loop-i.invariant) c.in_err-write_saved.ensures)

pub loop-i-preserved : goal.loop-i-preserved
loop-i-preserved g c =
    item_added (λ (old : SavedArchive). spelled (saved_pieces old)) c.args.saved.now c.loop-i.i (_) (item_at c.args.saved.now c.loop-i.i c.index-saved-i.result c.loop-i-test.true ∙ ap (λ (x : SavedArchive). Some x) (sym c.index-saved-i.is)) (c.loop-i.invariant) c.in_ok-write_saved.ensures

pub returns : goal.returns
returns g c =
    subst (Adds _ _ _) (sym (flat_flat spell saved_pieces c.args.saved.now)) (all_added (λ (old : SavedArchive). spelled (saved_pieces old)) c.args.saved.now c.loop-i.i (omega (arith, c.loop-i-test.false)) (c.loop-i.invariant))
