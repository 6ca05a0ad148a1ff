use Rattle.rrd_file.proofs.Common.{◌∙◌, ◌+◌, ◌-◌, ◌<◌, ◌++◌, ℕ, sym, ap, length, replicate, subst, take, arith, err_from_is_err_and, outline_left, row_pieces, RowCellDue, cells_due, Comes, next_due, next_width, rows_go_on, rows_new}
use Rattle.rrd_file.proofs.journal.rows.read_old_rows.Goals as goal

pub loop-i-init : goal.loop-i-init
loop-i-init g c = rows_new c.args.build.now c.args.count c.sources.result c.in-Ok.rows c.args.input.now c.sources.ensures.count c.in-Ok.ensures

pub returns-in_err-read_row-clause-brings : goal.returns-in_err-read_row-clause-brings
returns-in_err-read_row-clause-brings g c = λ bytes pieces later st.
    let p = err_from_is_err_and c.from_residual.result c.from_residual.ensures.1 in
    let f = c.args.build.now in
    let n = c.args.count in
    let i = c.loop-i.i in
    let rows = c.loop-i.rows in
    let more : i < n = omega arith in
    let wide = next_width f n i rows c.args.input.now c.loop-i.input c.row_mut.result.now c.loop-i.invariant more c.row_mut.ensures.value in
    rw (p.1, p.2) (c.in_err-read_row.ensures.brings bytes (pieces ++ row_pieces (take i rows)) (cells_due (n - (i + 1)) (outline_left f) ++ later)
    (next_due f n i rows c.args.input.now c.loop-i.input (length c.row_mut.result.now) c.loop-i.invariant more wide bytes pieces later st))

pub loop-i-preserved : goal.loop-i-preserved
loop-i-preserved g c =
    let f = c.args.build.now in
    let n = c.args.count in
    let i = c.loop-i.i in
    let rows = c.loop-i.rows in
    let row = c.read_row.new.row in
    let more : i < n = omega arith in
    let wide = next_width f n i rows c.args.input.now c.loop-i.input c.row_mut.result.now c.loop-i.invariant more c.row_mut.ensures.value in
    rows_go_on f n i rows row c.loop-i.input c.read_row.new.input c.args.input.now c.loop-i.invariant more
    (c.row_mut.ensures.same_width row (c.in_ok-read_row.ensures.same_width ∙ ap length c.row_mut.ensures.value)) (c.in_ok-read_row.ensures.same_width ∙ wide)
    (λ bytes pieces later st. c.in_ok-read_row.ensures.brings bytes pieces later (subst (λ (k : ℕ). Comes bytes f pieces (replicate k RowCellDue ++ later) c.loop-i.input) (sym wide) st))
