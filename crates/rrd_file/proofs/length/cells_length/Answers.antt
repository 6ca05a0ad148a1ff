use Rattle.rrd_file.proofs.Common.{◌≡◌, ◌*◌, length, arith, sum_by, all_cells, rows_of, all_cells_are, cells_have}
use Rattle.rrd_file.proofs.length.cells_length.Goals as goal

pub returns-clause-count : goal.returns-clause-count
returns-clause-count c =
    let d = c.args.database.now.content in
    let cells : c.rows_in_all.result * c.sources.result ≡ sum_by rows_of d.archives * length d.sources = λ i. c.rows_in_all.ensures.count i * c.sources.ensures.count i in
    omega (arith, cells_have (all_cells d), all_cells_are c.cells_stand_in_slots.ensures.as_many d c.database_is_valid.ensures.content_is, cells)
