use Rattle.rrd_file.proofs.Common.{ap, arith, RraDef, rows_of, def_of, small_def, sum_next}
use Rattle.rrd_file.proofs.length.rows_in_all.Goals as goal

pub overflow_add-rows : goal.overflow_add-rows
overflow_add-rows c =
    let d = c.args.database.now.content in
    let def = c.archive-rows.result in
    let small = small_def d c.loop-archive.archive def c.database_is_valid.ensures.content_is (def_of d c.loop-archive.archive def c.archive-rows.ensures) in
    omega (arith, small.few_rows, c.loop-archive.invariant.few, c.loop-archive-test.true, c.archives-archive-end.ensures.count, c.database_is_valid.ensures.content_is.few_archives)

pub loop-archive-preserved : goal.loop-archive-preserved
loop-archive-preserved c =
    let d = c.args.database.now.content in
    let def = c.archive-rows.result in
    let is = def_of d c.loop-archive.archive def c.archive-rows.ensures in
    let rows = ap (λ (x : RraDef). x.rows) is.def_is in
    record {
      counted = omega (arith, sum_next rows_of d.archives c.loop-archive.archive is.archive is.there, rows, c.loop-archive.invariant.counted);
      few = omega (arith, (small_def d c.loop-archive.archive def c.database_is_valid.ensures.content_is is).few_rows, c.loop-archive.invariant.few);
    }
