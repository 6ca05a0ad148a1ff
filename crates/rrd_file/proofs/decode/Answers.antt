use Rattle.rrd_file.proofs.Common.{sym, subst, err_from_is_err_and, file_of, Start, Stands, begins}
use Rattle.rrd_file.proofs.decode.Goals as goal

pub returns-in_err-read_mark : goal.returns-in_err-read_mark
returns-in_err-read_mark g c = λ bytes h.
    let p = err_from_is_err_and c.from_residual-in_err-read_mark.result c.from_residual-in_err-read_mark.ensures.1 in
    rw (p.1, p.2) (c.in_err-read_mark.ensures bytes (subst (Stands bytes Start) (sym c.in_ok-input.ensures) (begins bytes _ h)))

pub returns-in_err-version : goal.returns-in_err-version
returns-in_err-version g c = λ bytes h.
    let p = err_from_is_err_and c.from_residual-in_err-version.result c.from_residual-in_err-version.ensures.1 in
    rw (p.1, p.2) (c.in_err-version.ensures bytes (c.in_ok-read_mark.ensures bytes (subst (Stands bytes Start) (sym c.in_ok-input.ensures) (begins bytes _ h))))

pub returns-in_err-build : goal.returns-in_err-build
returns-in_err-build g c = λ bytes h.
    let s2 = c.in_ok-version.ensures bytes (c.in_ok-read_mark.ensures bytes (subst (Stands bytes Start) (sym c.in_ok-input.ensures) (begins bytes _ h))) in
    let p = err_from_is_err_and c.from_residual-in_err-build.result c.from_residual-in_err-build.ensures.1 in
    rw (p.1, p.2) (c.in_err-build.ensures bytes s2)

pub returns-in_err-read_body : goal.returns-in_err-read_body
returns-in_err-read_body g c = λ bytes h.
    let s2 = c.in_ok-version.ensures bytes (c.in_ok-read_mark.ensures bytes (subst (Stands bytes Start) (sym c.in_ok-input.ensures) (begins bytes _ h))) in
    let p = err_from_is_err_and c.from_residual-in_err-read_body.result c.from_residual-in_err-read_body.ensures.1 in
    rw (p.1, p.2) (c.in_err-read_body.ensures.steps bytes (c.in_ok-build.ensures bytes s2))

pub returns-in_err-read_entries : goal.returns-in_err-read_entries
returns-in_err-read_entries g c = λ bytes h.
    let s2 = c.in_ok-version.ensures bytes (c.in_ok-read_mark.ensures bytes (subst (Stands bytes Start) (sym c.in_ok-input.ensures) (begins bytes _ h))) in
    let p = err_from_is_err_and c.from_residual-in_err-read_entries.result c.from_residual-in_err-read_entries.ensures.1 in
    rw (p.1, p.2) (c.in_err-read_entries.ensures.steps bytes (c.in_ok-read_body.ensures.steps bytes (c.in_ok-build.ensures bytes s2)))

pub returns-in_err-read_end : goal.returns-in_err-read_end
returns-in_err-read_end g c = λ bytes h.
    let s2 = c.in_ok-version.ensures bytes (c.in_ok-read_mark.ensures bytes (subst (Stands bytes Start) (sym c.in_ok-input.ensures) (begins bytes _ h))) in
    let s5 = c.in_ok-read_entries.ensures.steps bytes (c.in_ok-read_body.ensures.steps bytes (c.in_ok-build.ensures bytes s2)) in
    let p = err_from_is_err_and c.from_residual-in_err-read_end.result c.from_residual-in_err-read_end.ensures.1 in
    rw (p.1, p.2) (c.in_err-read_end.ensures bytes _ c.in_ok-read_entries.ensures.done s5)

pub returns : goal.returns
returns g c = λ bytes h.
    let s2 = c.in_ok-version.ensures bytes (c.in_ok-read_mark.ensures bytes (subst (Stands bytes Start) (sym c.in_ok-input.ensures) (begins bytes _ h))) in
    let s5 = c.in_ok-read_entries.ensures.steps bytes (c.in_ok-read_body.ensures.steps bytes (c.in_ok-build.ensures bytes s2)) in
    file_of bytes _ _ (c.in_ok-read_end.ensures bytes _ c.in_ok-read_entries.ensures.done s5) c.finish.ensures.filed c.finish.ensures.valid
