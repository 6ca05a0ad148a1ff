use Rattle.rrd_file.proofs.Common.{◌∙◌, Some, ap, sym, get_or, arith, Raw, Part, raws_and_parts, OfRawAndPart, spell, before_at, length_before, err_from_is_err_and, all_added, item_added, item_broken}
use Rattle.rrd_file.proofs.journal.update.write_raws_and_parts.Goals as goal

pub returns-in_err-write_raw_and_part : goal.returns-in_err-write_raw_and_part
returns-in_err-write_raw_and_part g c =
    let p = err_from_is_err_and c.from_residual.result c.from_residual.ensures.1 in
    rw p.1 (item_broken (spell) (raws_and_parts c.args.raws.now c.args.preps.now) c.loop-i.i (_) (before_at c.args.raws.now c.args.preps.now c.loop-i.i _ c.index-preps-i.result c.requires c.loop-i-test.true ∙ ap (λ (p : Part). Some (OfRawAndPart (get_or c.args.raws.now c.loop-i.i Raw.Unknown) p)) (sym c.index-preps-i.is)) (c.loop-i.invariant) c.in_err-write_raw_and_part.ensures)

pub loop-i-preserved : goal.loop-i-preserved
loop-i-preserved g c =
    item_added (spell) (raws_and_parts c.args.raws.now c.args.preps.now) c.loop-i.i (_) (before_at c.args.raws.now c.args.preps.now c.loop-i.i _ c.index-preps-i.result c.requires c.loop-i-test.true ∙ ap (λ (p : Part). Some (OfRawAndPart (get_or c.args.raws.now c.loop-i.i Raw.Unknown) p)) (sym c.index-preps-i.is)) (c.loop-i.invariant) c.in_ok-write_raw_and_part.ensures

pub returns : goal.returns
returns g c =
    all_added (spell) (raws_and_parts c.args.raws.now c.args.preps.now) c.loop-i.i (omega (arith, c.loop-i-test.false, length_before c.args.raws.now c.args.preps.now c.requires)) (c.loop-i.invariant)
