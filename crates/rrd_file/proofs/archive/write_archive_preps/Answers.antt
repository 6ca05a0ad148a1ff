use Rattle.rrd_file.proofs.Common.{◌∙◌, map, arith, length-map, nothing, OfPrep, spell, prep_is, parts_length, err_from_is_err_and, all_added, item_added, item_at, item_broken, mapped_at}
use Rattle.rrd_file.proofs.archive.write_archive_preps.Goals as goal

pub returns-in_err-write_prep : goal.returns-in_err-write_prep
returns-in_err-write_prep g c = λ a e.
    let p = err_from_is_err_and c.from_residual.result c.from_residual.ensures.1 in
    let wide = parts_length c.args.database.now.content c.args.archive a c.database_is_valid.ensures.content_is e in
    let is = c.row_prep.ensures ∙ prep_is c.args.database.now.content.archives c.args.archive c.loop-source.source a e in
    rw p.1 (item_broken (spell) (map OfPrep a.parts) c.loop-source.source (_) (mapped_at OfPrep a.parts c.loop-source.source _ (item_at a.parts c.loop-source.source nothing (omega (arith, c.sources-source-end.ensures.count, c.loop-source-test.true, wide)))) (c.loop-source.invariant a e) (rw is at c.in_err-write_prep.ensures))

pub loop-source-preserved : goal.loop-source-preserved
loop-source-preserved g c = λ a e.
    let wide = parts_length c.args.database.now.content c.args.archive a c.database_is_valid.ensures.content_is e in
    let is = c.row_prep.ensures ∙ prep_is c.args.database.now.content.archives c.args.archive c.loop-source.source a e in
    item_added (spell) (map OfPrep a.parts) c.loop-source.source (_) (mapped_at OfPrep a.parts c.loop-source.source _ (item_at a.parts c.loop-source.source nothing (omega (arith, c.sources-source-end.ensures.count, c.loop-source-test.true, wide)))) (c.loop-source.invariant a e) (rw is at c.in_ok-write_prep.ensures)

pub returns : goal.returns
returns g c = λ a e.
    all_added (spell) (map OfPrep a.parts) c.loop-source.source (omega (arith, c.sources-source-end.ensures.count, c.loop-source-test.false, length-map a.parts OfPrep, parts_length c.args.database.now.content c.args.archive a c.database_is_valid.ensures.content_is e)) (c.loop-source.invariant a e)
