use Rattle.rrd_file.proofs.Common.{◌∙◌, Some, ap, sym, map, Consolidating, parts_in, OfPrep, spell, err_from_is_err_and, item_added, item_at, item_broken, mapped_at}
use Rattle.rrd_file.proofs.archive.write_preps.Goals as goal

pub returns-in_err-write_prep : goal.returns-in_err-write_prep
returns-in_err-write_prep g c =
    let p = err_from_is_err_and c.from_residual.result c.from_residual.ensures.1 in
    rw p.1 (item_broken (spell) (map OfPrep (parts_in c.args.preps.now)) c.loop-i.i (_) (mapped_at OfPrep (parts_in c.args.preps.now) c.loop-i.i _ (mapped_at (λ (prep : Consolidating). prep.part) c.args.preps.now c.loop-i.i _ (item_at c.args.preps.now c.loop-i.i c.index-preps-i.result c.loop-i-test.true ∙ ap (λ (x : Consolidating). Some x) (sym c.index-preps-i.is)))) (c.loop-i.invariant) c.in_err-write_prep.ensures)

pub loop-i-preserved : goal.loop-i-preserved
loop-i-preserved g c =
    item_added (spell) (map OfPrep (parts_in c.args.preps.now)) c.loop-i.i (_) (mapped_at OfPrep (parts_in c.args.preps.now) c.loop-i.i _ (mapped_at (λ (prep : Consolidating). prep.part) c.args.preps.now c.loop-i.i _ (item_at c.args.preps.now c.loop-i.i c.index-preps-i.result c.loop-i-test.true ∙ ap (λ (x : Consolidating). Some x) (sym c.index-preps-i.is)))) (c.loop-i.invariant) c.in_ok-write_prep.ensures
