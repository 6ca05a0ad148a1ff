use Rattle.rrd_file.proofs.Common.{◌∙◌, ◌-◌, ◌+◌, ap, sym, drop, after_cells, four_in, rows_size, cells_done, cells_more}
use Rattle.rrd_file.proofs.end.after_cells.Goals as goal

pub loop-preserved : goal.loop-preserved
loop-preserved c =
    let n = c.args.sources in
    let left = c.args.archives - (c.loop.counter + 1) in
    let rows = c.four_in.ensures.number ∙ ap four_in c.after.ensures in
    let rest = c.after-rest.ensures ∙ ap (λ k. drop k c.loop.rest.now) (c.rows_size.ensures.size ∙ ap (rows_size n) rows) in
    let next = c.after-next.ensures ∙ ap (λ k. drop k c.loop.next.now) c.head_size.ensures.size in
    (λ i. after_cells n left (next i) (rest i)) ∙ cells_more n c.args.archives c.loop.counter c.loop.next.now c.loop.rest.now c.loop-test.true ∙ c.loop.invariant

pub returns : goal.returns
returns c = sym (cells_done c.args.sources c.args.archives c.loop.counter c.loop.next.now c.loop.rest.now c.loop-test.false) ∙ c.loop.invariant
