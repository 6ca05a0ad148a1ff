use Rattle.rrd_file.proofs.Common.{◌≡◌, ◌∙◌, sym, length, rules, err_from_is_err_and, spell, OfRows, false, true, four_bytes, cut_within, broken, kept, ReadOldRows, validated, validates, whole, OldRowsDue}
use Rattle.rrd_file.proofs.journal.resize.read_old_row_count.Goals as goal

pub returns-in_err-piece-clause-brings : goal.returns-in_err-piece-clause-brings
returns-in_err-piece-clause-brings g c = λ bytes pieces later st.
    let p = err_from_is_err_and c.from_residual.result c.from_residual.ensures.1 in
    let len : length c.piece.new.piece ≡ 4 = search rules in
    rw (p.1, p.2) (cut_within bytes c.args.build.now pieces (OldRowsDue c.args.archive) later c.args.input.now _ _ st (sym len) c.in_err-piece.ensures.read)

pub returns-then-not-is_valid_old_row_count-clause-brings : goal.returns-then-not-is_valid_old_row_count-clause-brings
unfolding spell
returns-then-not-is_valid_old_row_count-clause-brings g c = λ bytes pieces later st.
    let len : length c.piece.new.piece ≡ 4 = search rules in
    rw c.bad_entry.ensures (broken bytes c.args.build.now pieces (OldRowsDue c.args.archive) later c.args.input.now c.piece.new.self (OfRows c.four_of-rows.result.0) c.piece.new.piece st c.in_ok-piece.ensures.read (whole c.piece.new.piece (four_bytes c.four_of-rows.result.0) c.four_of-rows.result.1.now 4 c.four_of-rows.ensures.spelled c.four_of-rows.ensures.room len) (sym len) (ReadOldRows c.args.archive c.four_of-rows.result.0 c.four_of-rows.ensures.small) (λ k. let bad : false ≡ true = sym c.if-not-is_valid_old_row_count.true ∙ c.is_valid_old_row_count.ensures.bad (validates c.args.build.now c.validator.result.now (OldRowsDue c.args.archive) (OfRows c.four_of-rows.result.0) c.validator.ensures k) in absurd cc))

pub returns-clause-brings : goal.returns-clause-brings
unfolding spell
returns-clause-brings g c = λ bytes pieces later st.
    let len : length c.piece.new.piece ≡ 4 = search rules in
    kept bytes c.args.build.now pieces (OldRowsDue c.args.archive) later c.args.input.now c.piece.new.self (OfRows c.four_of-rows.result.0) c.piece.new.piece st c.in_ok-piece.ensures.read (whole c.piece.new.piece (four_bytes c.four_of-rows.result.0) c.four_of-rows.result.1.now 4 c.four_of-rows.ensures.spelled c.four_of-rows.ensures.room len) (sym len) (ReadOldRows c.args.archive c.four_of-rows.result.0 c.four_of-rows.ensures.small) (validated c.args.build.now c.validator.result.now (OldRowsDue c.args.archive) (OfRows c.four_of-rows.result.0) c.validator.ensures (c.is_valid_old_row_count.ensures.good c.if-not-is_valid_old_row_count.false))
