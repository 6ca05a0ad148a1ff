use Rattle.std.proofs.lemmas.Grind.{common_steps}
use Rattle.rrd_ring.proofs.Common.{◌+◌, ◌*◌, ◌/◌, ◌∙◌, ap, length, take, drop, arith, add-mul, with_unwritten, cells_le, rows_in, run_fits, run_one, run_whole}
use Rattle.rrd_ring.proofs.ring.run_from.Goals as goal

pub row_from-requires-clause-few : goal.row_from-requires-clause-few
row_from-requires-clause-few c = grind (arith, common_steps, rows_in c.args.sources, run_one c.args.sources c.args.index c.contiguous_count-count.result)

pub row_from-requires-clause-whole : goal.row_from-requires-clause-whole
row_from-requires-clause-whole c = grind (arith, common_steps, rows_in c.args.sources, run_whole c.args.sources c.args.index c.contiguous_count-count.result)

pub returns-clause-within : goal.returns-clause-within
returns-clause-within c = λ rows few there.
    let xs = c.args.cells.now in
    let written = rows_in c.args.sources xs c.requires.some_sources c.requires.whole in
    run_fits rows c.args.sources c.args.index c.contiguous_count-count.result (length xs / c.args.sources) xs c.requires.some_sources written few there c.contiguous_count-count.ensures.within c.contiguous_count-count.ensures.behind

pub returns-clause-cells : goal.returns-clause-cells
returns-clause-cells c = λ rows fits.
    let xs = with_unwritten (rows * c.args.sources) c.args.cells.now in
    let n = c.contiguous_count-count.result in
    let start = c.cells_of-start.ensures.count in
    let count = c.cells_of.ensures.count in
    c.row_from.ensures (rows * c.args.sources) (omega (arith, start, count, add-mul c.args.index n c.args.sources, cells_le (c.args.index + n) rows c.args.sources fits))
    ∙ ap (λ k. take k (drop c.cells_of-start.result xs)) count
    ∙ ap (λ k. take (n * c.args.sources) (drop k xs)) start
