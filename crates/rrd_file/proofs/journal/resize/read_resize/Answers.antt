use Rattle.rrd_file.proofs.Common.{◌∷◌, [], err_from_is_err_and, AResize, OfNumber, OfRows, OfTag}
use Rattle.rrd_file.proofs.journal.resize.read_resize.Goals as goal

pub returns-in_err-archive-clause-closes : goal.returns-in_err-archive-clause-closes
returns-in_err-archive-clause-closes g c = λ bytes st.
    let p = err_from_is_err_and c.from_residual.result c.from_residual.ensures.1 in
    rw (p.1, p.2) (c.in_err-archive.ensures.brings bytes (OfTag AResize ∷ []) [] st)

pub returns-in_err-count-clause-closes : goal.returns-in_err-count-clause-closes
returns-in_err-count-clause-closes g c = λ bytes st.
    let p = err_from_is_err_and c.from_residual-in_err-count.result c.from_residual-in_err-count.ensures.1 in
    let s1 = c.in_ok-archive.ensures.brings bytes (OfTag AResize ∷ []) [] st in
    rw (p.1, p.2) (c.in_err-count.ensures.brings bytes (OfTag AResize ∷ OfNumber c.in_ok-archive.archive ∷ []) [] s1)

pub returns-in_err-old-clause-closes : goal.returns-in_err-old-clause-closes
returns-in_err-old-clause-closes g c = λ bytes st.
    let p = err_from_is_err_and c.from_residual-in_err-old.result c.from_residual-in_err-old.ensures.1 in
    let s1 = c.in_ok-archive.ensures.brings bytes (OfTag AResize ∷ []) [] st in
    let s2 = c.in_ok-count.ensures.brings bytes (OfTag AResize ∷ OfNumber c.in_ok-archive.archive ∷ []) [] s1 in
    rw (p.1, p.2) (c.in_err-old.ensures.brings bytes (OfTag AResize ∷ OfNumber c.in_ok-archive.archive ∷ OfRows c.in_ok-count.count ∷ []) [] s2)
