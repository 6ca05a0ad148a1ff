use Rattle.rrd_file.proofs.Common.{◌∙◌, ap, sym, subst, replicate, length-replicate, take-replicate, Unknown, MayCells, with_cells, some_taken}
use Rattle.rrd_file.proofs.cells.take_unknown.Goals as goal

pub returns-then-taken-gt0-clause-steps : goal.returns-then-taken-gt0-clause-steps
returns-then-taken-gt0-clause-steps g c = λ bytes some st.
    let taken = c.unknown_rows-taken.result in
    let n = c.unknown_front.result in
    let f = c.args.build.now in
    let came = c.unknown_rows-taken.ensures in
    let same = sym (take-replicate taken n Unknown came.few) in
    some_taken bytes c.args.input.now c.skip.new.self f c.unknown_rows-taken.new.self (replicate n Unknown) taken n c.waiting.result c.front.result.now st c.front.ensures.front c.unknown_front.ensures.spelled (length-replicate n Unknown) came.few
    (subst (MayCells f) same came.may) (came.came ∙ ap (with_cells f) same) c.skip.ensures.consumed c.skip.ensures.advanced c.skip.ensures.bounded
