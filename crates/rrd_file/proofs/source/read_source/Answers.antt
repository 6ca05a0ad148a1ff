use Rattle.rrd_file.proofs.Common.{◌≡◌, ◌∙◌, sym, ap, length, rules, to_z-of_z, FitsSigned, w128, err_from_is_err_and, body_size, source_said, cut_body, refusal_is, source_refused, source_taken, source_unread}
use Rattle.rrd_file.proofs.source.read_source.Goals as goal

pub returns-in_err-piece-clause-steps : goal.returns-in_err-piece-clause-steps
returns-in_err-piece-clause-steps g c = λ bytes st.
    let p = err_from_is_err_and c.from_residual.result c.from_residual.ensures.1 in
    let len : length c.piece.new.piece ≡ 97 = search rules in
    rw (p.1, p.2) (cut_body bytes c.args.build.now c.args.input.now _ _ (ap body_size c.requires ∙ sym len) st c.in_err-piece.ensures.read)

pub returns-in_default-clause-steps : goal.returns-in_default-clause-steps
returns-in_default-clause-steps g c = λ bytes st.
    let len : length c.piece.new.piece ≡ 97 = search rules in
    rw c.at-at.ensures (source_unread bytes c.piece.new.piece c.args.input.now c.piece.new.self c.args.build.now c.requires st c.in_ok-piece.ensures.read len (c.source_of.ensures.none (search rules)))

pub returns-in-Ok-clause-steps : goal.returns-in-Ok-clause-steps
returns-in-Ok-clause-steps g c = λ bytes st.
    let fits : FitsSigned w128 c.in-Some.field-0.sum = c.in-Some.ensures.some.0.part.value in
    source_taken bytes c.piece.new.piece c.args.input.now c.piece.new.self c.args.build.now c.source.new.self (source_said c.in-Some.field-0) st c.in_ok-piece.ensures.read c.in-Some.ensures.some.1 (simp (to_z-of_z {w = w128} fits) at c.in-Ok.ensures.ok)

pub returns-in-Err-clause-steps : goal.returns-in-Err-clause-steps
returns-in-Err-clause-steps g c = λ bytes st.
    let fits : FitsSigned w128 c.in-Some.field-0.sum = c.in-Some.ensures.some.0.part.value in
    let len : length c.piece.new.piece ≡ 97 = search rules in
    rw (c.block_fault.ensures, c.at-at.ensures) (refusal_is bytes c.args.input.now.at c.in-Err.fault (λ e.
    source_refused bytes c.piece.new.piece c.args.input.now c.piece.new.self c.args.build.now (source_said c.in-Some.field-0) c.requires st c.in_ok-piece.ensures.read len c.in-Some.ensures.some.1 c.in-Some.ensures.some.0 (simp (to_z-of_z {w = w128} fits) at (c.in-Err.ensures.bad e))))
