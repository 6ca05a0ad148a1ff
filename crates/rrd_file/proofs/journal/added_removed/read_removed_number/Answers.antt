use Rattle.rrd_file.proofs.Common.{◌≡◌, ◌∙◌, sym, length, rules, err_from_is_err_and, spell, OfNumber, false, true, two_bytes, cut_within, broken, kept, ReadRemovedNumber, validated, validates, whole, RemovedNumberDue}
use Rattle.rrd_file.proofs.journal.added_removed.read_removed_number.Goals as goal

pub returns-in_err-piece : goal.returns-in_err-piece
returns-in_err-piece g c = λ bytes pieces later st.
    let p = err_from_is_err_and c.from_residual.result c.from_residual.ensures.1 in
    let len : length c.piece.new.piece ≡ 2 = search rules in
    rw (p.1, p.2) (cut_within bytes c.args.build.now pieces RemovedNumberDue later c.args.input.now _ _ st (sym len) c.in_err-piece.ensures.read)

pub returns-then-not-is_valid_removed_number : goal.returns-then-not-is_valid_removed_number
unfolding spell
returns-then-not-is_valid_removed_number g c = λ bytes pieces later st.
    let len : length c.piece.new.piece ≡ 2 = search rules in
    rw c.bad_entry.ensures (broken bytes c.args.build.now pieces RemovedNumberDue later c.args.input.now c.piece.new.self (OfNumber c.two_of-archive.result.0) c.piece.new.piece st c.in_ok-piece.ensures.read (whole c.piece.new.piece (two_bytes c.two_of-archive.result.0) c.two_of-archive.result.1.now 2 c.two_of-archive.ensures.spelled c.two_of-archive.ensures.room len) (sym len) (ReadRemovedNumber c.two_of-archive.result.0 c.two_of-archive.ensures.small) (λ k. let bad : false ≡ true = sym c.if-not-is_valid_removed_number.true ∙ c.is_valid_removed_number.ensures.bad (validates c.args.build.now c.validator.result.now RemovedNumberDue (OfNumber c.two_of-archive.result.0) c.validator.ensures k) in absurd cc))

pub returns : goal.returns
unfolding spell
returns g c = λ bytes pieces later st.
    let len : length c.piece.new.piece ≡ 2 = search rules in
    kept bytes c.args.build.now pieces RemovedNumberDue later c.args.input.now c.piece.new.self (OfNumber c.two_of-archive.result.0) c.piece.new.piece st c.in_ok-piece.ensures.read (whole c.piece.new.piece (two_bytes c.two_of-archive.result.0) c.two_of-archive.result.1.now 2 c.two_of-archive.ensures.spelled c.two_of-archive.ensures.room len) (sym len) (ReadRemovedNumber c.two_of-archive.result.0 c.two_of-archive.ensures.small) (validated c.args.build.now c.validator.result.now RemovedNumberDue (OfNumber c.two_of-archive.result.0) c.validator.ensures (c.is_valid_removed_number.ensures.good c.if-not-is_valid_removed_number.false))
