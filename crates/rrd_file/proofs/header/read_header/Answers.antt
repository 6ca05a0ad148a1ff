use Rattle.rrd_file.proofs.Common.{◌≡◌, length, rules, subst, sym, err_from_is_err_and, header_said, Version, Versioned, header_size, Stands, cut_header, header_refused, header_taken, refusal_is}
use Rattle.rrd_file.proofs.header.read_header.Goals as goal

pub returns-in_err-piece : goal.returns-in_err-piece
returns-in_err-piece g c = λ bytes st.
    let p = err_from_is_err_and c.from_residual.result c.from_residual.ensures.1 in
    let len : length c.piece.new.piece ≡ header_size c.args.version = search rules in
    rw (p.1, p.2) (cut_header c.args.version bytes c.args.input.now _ _ len st c.in_err-piece.ensures.read)

pub returns-in-Ok : goal.returns-in-Ok
returns-in-Ok g c = λ bytes st.
    let said = c.header_of.result in
    let here = subst (λ (v : Version). Stands bytes (Versioned v) c.args.input.now) (sym c.header_of.ensures.version) st in
    header_taken bytes c.piece.new.piece c.args.input.now c.piece.new.self (header_said said) c.in-Ok.build here c.in_ok-piece.ensures.read c.header_of.ensures.spelled c.in-Ok.ensures.ok

pub returns-in-Err : goal.returns-in-Err
returns-in-Err g c = λ bytes st.
    let said = c.header_of.result in
    let here = subst (λ (v : Version). Stands bytes (Versioned v) c.args.input.now) (sym c.header_of.ensures.version) st in
    let len : length c.piece.new.piece ≡ header_size said.version = search rules in
    rw (c.block_fault.ensures, c.at-at.ensures)
    (refusal_is bytes c.args.input.now.at c.in-Err.fault
    (λ e. header_refused bytes c.piece.new.piece c.args.input.now c.piece.new.self (header_said said) here c.in_ok-piece.ensures.read len c.header_of.ensures.spelled c.header_of.ensures.fits (c.in-Err.ensures.bad e)))
