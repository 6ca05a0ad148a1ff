use Rattle.rrd_file.proofs.Common.{◌≡◌, ◌∙◌, ◌*◌, ap, length, arith, saved_has}
use Rattle.rrd_file.proofs.length.saved_length.Goals as goal

pub returns-clause-count : goal.returns-clause-count
returns-clause-count c =
    let old = c.args.saved.now in
    let rows : c.len.result ≡ length old.rows = c.len.ensures.count ∙ ap length c.rows.ensures in
    omega (arith, saved_has c.args.sources old c.requires.wide, ap (λ n. n * c.args.sources) rows, c.rows_length.ensures.count)
