use Rattle.rrd_file.proofs.Common.{◌≡◌, ◌∙◌, sym, length, rules, err_from_is_err_and, spell, OfCount, false, true, two_bytes, cut_within, broken, kept, ReadCount, whole, CountDue}
use Rattle.rrd_file.proofs.journal.tune.read_count.Goals as goal

pub returns-in_err-piece-clause-brings : goal.returns-in_err-piece-clause-brings
returns-in_err-piece-clause-brings g c = λ bytes pieces later st.
    let p = err_from_is_err_and c.from_residual.result c.from_residual.ensures.1 in
    let len : length c.piece.new.piece ≡ 2 = search rules in
    rw (p.1, p.2) (cut_within bytes c.args.build.now pieces CountDue later c.args.input.now _ _ st (sym len) c.in_err-piece.ensures.read)

pub returns-then-not-is_valid_tune_count-clause-brings : goal.returns-then-not-is_valid_tune_count-clause-brings
unfolding spell
returns-then-not-is_valid_tune_count-clause-brings g c = λ bytes pieces later st.
    let len : length c.piece.new.piece ≡ 2 = search rules in
    rw c.bad_entry.ensures (broken bytes c.args.build.now pieces CountDue later c.args.input.now c.piece.new.self (OfCount c.two_of-count.result.0) c.piece.new.piece st c.in_ok-piece.ensures.read (whole c.piece.new.piece (two_bytes c.two_of-count.result.0) c.two_of-count.result.1.now 2 c.two_of-count.ensures.spelled c.two_of-count.ensures.room len) (sym len) (ReadCount c.two_of-count.result.0 c.two_of-count.ensures.small) (λ k. let bad : false ≡ true = sym c.if-not-is_valid_tune_count.true ∙ c.is_valid_tune_count.ensures.bad k in absurd cc))

pub returns-clause-brings : goal.returns-clause-brings
unfolding spell
returns-clause-brings g c = λ bytes pieces later st.
    let len : length c.piece.new.piece ≡ 2 = search rules in
    kept bytes c.args.build.now pieces CountDue later c.args.input.now c.piece.new.self (OfCount c.two_of-count.result.0) c.piece.new.piece st c.in_ok-piece.ensures.read (whole c.piece.new.piece (two_bytes c.two_of-count.result.0) c.two_of-count.result.1.now 2 c.two_of-count.ensures.spelled c.two_of-count.ensures.room len) (sym len) (ReadCount c.two_of-count.result.0 c.two_of-count.ensures.small) (c.is_valid_tune_count.ensures.good c.if-not-is_valid_tune_count.false)
