use Rattle.rrd_file.proofs.Common.{◌≡◌, ◌-◌, sym, subst, arith, Consumes, Gives, left, spell, cell_bytes, cell_refused, cell_taken, refusal_is, whole}
use Rattle.rrd_file.proofs.cells.read_cell.Goals as goal

pub returns-in-Ok-clause-steps : goal.returns-in-Ok-clause-steps
unfolding spell
returns-in-Ok-clause-steps g c = λ bytes st.
    let is = whole c.front.result.now (cell_bytes c.cell_of-cell.result.0) c.cell_of-cell.result.1.now 16 c.cell_of-cell.ensures.spelled c.cell_of-cell.ensures.room c.front.ensures.size in
    let gives : Gives c.args.input.now c.front.result.now c.skip.new.self = record {
      consumed = subst (Consumes (left c.args.input.now) (left c.skip.new.self)) (sym c.front.ensures.front) c.skip.ensures.consumed;
      advanced = omega (arith, c.skip.ensures.advanced, c.front.ensures.size);
      bounded = c.skip.ensures.bounded;
    } in
    cell_taken bytes c.front.result.now c.args.input.now c.skip.new.self c.args.build.now c.cell-came.new.self c.cell_of-cell.result.0 st gives is c.in-Ok.ensures.ok

pub returns-in-Err-clause-steps : goal.returns-in-Err-clause-steps
unfolding spell
returns-in-Err-clause-steps g c = λ bytes st.
    let is = whole c.front.result.now (cell_bytes c.cell_of-cell.result.0) c.cell_of-cell.result.1.now 16 c.cell_of-cell.ensures.spelled c.cell_of-cell.ensures.room c.front.ensures.size in
    let gives : Gives c.args.input.now c.front.result.now c.skip.new.self = record {
      consumed = subst (Consumes (left c.args.input.now) (left c.skip.new.self)) (sym c.front.ensures.front) c.skip.ensures.consumed;
      advanced = omega (arith, c.skip.ensures.advanced, c.front.ensures.size);
      bounded = c.skip.ensures.bounded;
    } in
    let at : c.at.result - 16 ≡ c.args.input.now.at = omega (arith, c.at.ensures, gives.advanced, c.front.ensures.size) in
    rw (c.block_fault.ensures, at) (refusal_is bytes c.args.input.now.at c.in-Err.fault (λ e. cell_refused bytes c.front.result.now c.args.input.now c.skip.new.self c.args.build.now c.cell_of-cell.result.0 c.requires.is_due st gives c.front.ensures.size is c.cell_of-cell.ensures.fits (c.in-Err.ensures.bad e)))
