use Rattle.rrd_file.proofs.Common.{◌≡◌, ◌∙◌, sym, length, rules, err_from_is_err_and, spell, OfTime, false, true, eight_bytes, cut_within, broken, kept, ReadTime, validated, validates, whole, TimeDue}
use Rattle.rrd_file.proofs.journal.update.read_time.Goals as goal

pub returns-in_err-piece-clause-brings : goal.returns-in_err-piece-clause-brings
returns-in_err-piece-clause-brings g c = λ bytes pieces later st.
    let p = err_from_is_err_and c.from_residual.result c.from_residual.ensures.1 in
    let len : length c.piece.new.piece ≡ 8 = search rules in
    rw (p.1, p.2) (cut_within bytes c.args.build.now pieces TimeDue later c.args.input.now _ _ st (sym len) c.in_err-piece.ensures.read)

pub returns-then-not-is_before_last_time-clause-brings : goal.returns-then-not-is_before_last_time-clause-brings
unfolding spell
returns-then-not-is_before_last_time-clause-brings g c = λ bytes pieces later st.
    let len : length c.piece.new.piece ≡ 8 = search rules in
    rw c.bad_entry.ensures (broken bytes c.args.build.now pieces TimeDue later c.args.input.now c.piece.new.self (OfTime c.eight_of-last.result.0) c.piece.new.piece st c.in_ok-piece.ensures.read (whole c.piece.new.piece (eight_bytes c.eight_of-last.result.0) c.eight_of-last.result.1.now 8 c.eight_of-last.ensures.spelled c.eight_of-last.ensures.room len) (sym len) (ReadTime c.eight_of-last.result.0 (search rules)) (λ k. let bad : false ≡ true = sym c.if-not-is_before_last_time.true ∙ c.is_before_last_time.ensures.bad (validates c.args.build.now c.validator.result.now TimeDue (OfTime c.eight_of-last.result.0) c.validator.ensures k) in absurd cc))

pub returns-clause-brings : goal.returns-clause-brings
unfolding spell
returns-clause-brings g c = λ bytes pieces later st.
    let len : length c.piece.new.piece ≡ 8 = search rules in
    kept bytes c.args.build.now pieces TimeDue later c.args.input.now c.piece.new.self (OfTime c.eight_of-last.result.0) c.piece.new.piece st c.in_ok-piece.ensures.read (whole c.piece.new.piece (eight_bytes c.eight_of-last.result.0) c.eight_of-last.result.1.now 8 c.eight_of-last.ensures.spelled c.eight_of-last.ensures.room len) (sym len) (ReadTime c.eight_of-last.result.0 (search rules)) (validated c.args.build.now c.validator.result.now TimeDue (OfTime c.eight_of-last.result.0) c.validator.ensures (c.is_before_last_time.ensures.good c.if-not-is_before_last_time.false))
