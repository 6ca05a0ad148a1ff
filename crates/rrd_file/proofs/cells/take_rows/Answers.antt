use Rattle.rrd_file.proofs.Common.{◌≡◌, ◌≤◌, arith, length, take, length-take-le, some_taken}
use Rattle.rrd_file.proofs.cells.take_rows.Goals as goal

pub returns-then-taken-gt0-clause-steps : goal.returns-then-taken-gt0-clause-steps
returns-then-taken-gt0-clause-steps g c = λ bytes some st.
    let taken = c.rows-taken.result in
    let good = c.cells_before_unknown_end-good.result in
    let cells = take good c.cells_before_unknown_end-good.new.cells in
    let count : length cells ≡ good = length-take-le good c.cells_before_unknown_end-good.new.cells c.cells_before_unknown_end-good.ensures.few in
    let few : taken ≤ good = omega (arith, c.rows-taken.ensures.few, count) in
    some_taken bytes c.args.input.now c.skip.new.self c.args.build.now c.rows-taken.new.self cells taken good _ c.front-bytes.result.now st c.front-bytes.ensures.front c.cells_before_unknown_end-good.ensures.spelled count few
    c.rows-taken.ensures.may c.rows-taken.ensures.came c.skip.ensures.consumed c.skip.ensures.advanced c.skip.ensures.bounded
