use Rattle.rrd_file.proofs.Common.{◌≡◌, ◌∙◌, sym, ap, length, rules, to_z-of_z, FitsSigned, err_from_is_err_and, body_size, w128, Part, spell, part_bytes, cut_body, prep_refused, prep_taken, refusal_is, whole}
use Rattle.rrd_file.proofs.archive.read_prep.Goals as goal

pub returns-in_err-piece-clause-steps : goal.returns-in_err-piece-clause-steps
returns-in_err-piece-clause-steps g c = λ bytes st.
    let p = err_from_is_err_and c.from_residual.result c.from_residual.ensures.1 in
    let len : length c.piece.new.piece ≡ 20 = search rules in
    rw (p.1, p.2) (cut_body bytes c.args.build.now c.args.input.now _ _ (ap body_size c.requires.1 ∙ sym len) st c.in_err-piece.ensures.read)

pub returns-in-Ok-clause-steps : goal.returns-in-Ok-clause-steps
unfolding spell
returns-in-Ok-clause-steps g c = λ bytes st.
    let len : length c.piece.new.piece ≡ 20 = search rules in
    let fits : FitsSigned w128 c.part_of-known.result.1 = search rules in
    let part : Part = record { known = c.part_of-known.result.0; value = c.part_of-known.result.1 } in
    let is = whole c.piece.new.piece (part_bytes part) c.part_of-known.result.2.now 20 c.part_of-known.ensures.spelled c.part_of-known.ensures.room len in
    prep_taken bytes c.piece.new.piece c.args.input.now c.piece.new.self c.args.build.now c.prep.new.self part st c.in_ok-piece.ensures.read is (simp (to_z-of_z {w = w128} fits) at c.in-Ok.ensures.ok)

pub returns-in-Err-clause-steps : goal.returns-in-Err-clause-steps
unfolding spell
returns-in-Err-clause-steps g c = λ bytes st.
    let len : length c.piece.new.piece ≡ 20 = search rules in
    rw (c.block_fault.ensures, c.at-at.ensures) (refusal_is bytes c.args.input.now.at c.in-Err.fault (λ e.
    let fits : FitsSigned w128 c.part_of-known.result.1 = search rules in
    let part : Part = record { known = c.part_of-known.result.0; value = c.part_of-known.result.1 } in
    let is = whole c.piece.new.piece (part_bytes part) c.part_of-known.result.2.now 20 c.part_of-known.ensures.spelled c.part_of-known.ensures.room len in
    prep_refused bytes c.piece.new.piece c.args.input.now c.piece.new.self c.args.build.now part c.requires st c.in_ok-piece.ensures.read len is (record { known = c.part_of-known.ensures.small; value = fits }) (simp (to_z-of_z {w = w128} fits) at (c.in-Err.ensures.bad e))))
