use Rattle.rrd_file.proofs.Common.{◌≡◌, ◌∙◌, sym, length, rules, err_from_is_err_and, false, true, OfArchive, RemovedHeadDue, cut_within, ReadRemovedHead, broken, kept, unread_head, validated, validates}
use Rattle.rrd_file.proofs.journal.added_removed.read_removed_settings.Goals as goal

pub returns-in_err-piece-clause-brings : goal.returns-in_err-piece-clause-brings
returns-in_err-piece-clause-brings g c = λ bytes pieces later st.
    let p = err_from_is_err_and c.from_residual.result c.from_residual.ensures.1 in
    let len : length c.piece.new.piece ≡ 13 = search rules in
    rw (p.1, p.2) (cut_within bytes c.args.build.now pieces RemovedHeadDue later c.args.input.now _ _ st (sym len) c.in_err-piece.ensures.read)

pub returns-in_default-clause-brings : goal.returns-in_default-clause-brings
returns-in_default-clause-brings g c = λ bytes pieces later st.
    let len : length c.piece.new.piece ≡ 13 = search rules in
    rw c.bad_entry.ensures (unread_head bytes c.args.build.now pieces later c.args.input.now c.piece.new.self c.piece.new.piece st c.in_ok-piece.ensures.read (sym len) (c.archive_of.ensures.none (search rules)))

pub returns-then-not-accepts_archive-clause-brings : goal.returns-then-not-accepts_archive-clause-brings
returns-then-not-accepts_archive-clause-brings g c = λ bytes pieces later st.
    let len : length c.piece.new.piece ≡ 13 = search rules in
    rw c.bad_entry-then-not-accepts_archive.ensures (broken bytes c.args.build.now pieces RemovedHeadDue later c.args.input.now c.piece.new.self (OfArchive c.in-Some.def) c.piece.new.piece st c.in_ok-piece.ensures.read c.in-Some.ensures.some.1 (sym len) (ReadRemovedHead c.in-Some.def c.in-Some.ensures.some.0) (λ k. let bad : false ≡ true = sym c.if-not-accepts_archive.true ∙ c.accepts_archive.ensures.bad (validates c.args.build.now c.validator.result.now RemovedHeadDue (OfArchive c.in-Some.def) c.validator.ensures k) in absurd cc))

pub returns-clause-brings : goal.returns-clause-brings
returns-clause-brings g c = λ bytes pieces later st.
    let len : length c.piece.new.piece ≡ 13 = search rules in
    kept bytes c.args.build.now pieces RemovedHeadDue later c.args.input.now c.piece.new.self (OfArchive c.in-Some.def) c.piece.new.piece st c.in_ok-piece.ensures.read c.in-Some.ensures.some.1 (sym len) (ReadRemovedHead c.in-Some.def c.in-Some.ensures.some.0) (validated c.args.build.now c.validator.result.now RemovedHeadDue (OfArchive c.in-Some.def) c.validator.ensures (c.accepts_archive.ensures.good c.if-not-accepts_archive.false))
