use Rattle.rrd_file.proofs.Common.{◌≡◌, ◌∙◌, ◌*◌, List, ap, length, subst, sym, arith, length-map, Cell, Consolidating, HasWidth, removed_has}
use Rattle.rrd_file.proofs.length.removed_length.Goals as goal

pub returns-clause-count : goal.returns-clause-count
returns-clause-count c = λ number.
    let old = c.args.old.now in
    let sources = c.sources.result in
    let wide : HasWidth sources old.rows = subst (λ (rows : List (List Cell)). HasWidth sources rows) c.archive-rows.ensures c.sources.ensures.each_row in
    let rows : c.rows.result ≡ length old.rows = c.rows.ensures.count ∙ ap length c.archive-rows.ensures in
    let preps : length c.preps.result.now ≡ length old.parts = sym (length-map c.preps.result.now (λ (prep : Consolidating). prep.part)) ∙ ap length c.preps.ensures.parts in
    omega (arith, removed_has number sources old wide, preps, ap (λ n. n * sources) rows, c.rows_length.ensures.count)
