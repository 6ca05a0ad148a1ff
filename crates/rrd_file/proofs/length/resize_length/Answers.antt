use Rattle.rrd_file.proofs.Common.{◌*◌, ap, arith, resize_has}
use Rattle.rrd_file.proofs.length.resize_length.Goals as goal

pub returns-clause-count : goal.returns-clause-count
returns-clause-count c = λ archive.
    omega (arith, resize_has archive c.sources.result c.args.old.now c.sources.ensures.each_row, ap (λ n. n * c.sources.result) c.rows.ensures.count, c.rows_length.ensures.count)
