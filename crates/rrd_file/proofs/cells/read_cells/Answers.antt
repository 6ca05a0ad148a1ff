use Rattle.rrd_file.proofs.Common.{ap, err_from_is_err_and, Body, body_size, cut_body, waited_for}
use Rattle.rrd_file.proofs.cells.read_cells.Goals as goal

pub returns-in_err-wait_for-clause-steps : goal.returns-in_err-wait_for-clause-steps
returns-in_err-wait_for-clause-steps g c = λ bytes st.
    let p = err_from_is_err_and c.from_residual.result c.from_residual.ensures.1 in
    rw (p.1, p.2) (cut_body bytes c.args.build.now c.args.input.now 16 _ (ap body_size c.requires) st c.in_err-wait_for.ensures.cut)

pub returns-in_err-read_some_cells-clause-steps : goal.returns-in_err-read_some_cells-clause-steps
returns-in_err-read_some_cells-clause-steps g c = λ bytes st.
    let p = err_from_is_err_and c.from_residual-in_err-read_some_cells.result c.from_residual-in_err-read_some_cells.ensures.1 in
    rw (p.1, p.2) (c.in_err-read_some_cells.ensures.steps bytes (waited_for bytes (Body c.loop-input.build) c.loop-input.input c.gather_row.new.input (c.loop-input.invariant.steps bytes st) c.in_ok-gather_row.ensures.keeps c.in_ok-gather_row.ensures.at))
