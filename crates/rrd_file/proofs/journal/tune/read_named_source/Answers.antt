use Rattle.rrd_file.proofs.Common.{◌≡◌, ◌∙◌, sym, length, rules, ◌+◌, ◌++◌, ◌∷◌, [], List, append-nil, subst, err_from_is_err_and, spell, OfSavedSource, false, true, DueInEntry, NamedDue, named_due, Comes, cut_within, ReadNamed, broken, kept, unread, validated, validates}
use Rattle.rrd_file.proofs.journal.tune.read_named_source.Goals as goal

pub returns-in_err-piece-clause-brings : goal.returns-in_err-piece-clause-brings
returns-in_err-piece-clause-brings g c = λ bytes pieces more st.
    let p = err_from_is_err_and c.from_residual.result c.from_residual.ensures.1 in
    let len : length c.piece.new.piece ≡ 79 = search rules in
    rw (p.1, p.2) (cut_within bytes c.args.build.now pieces (NamedDue c.args.lowest more) [] c.args.input.now _ _ st (sym len) c.in_err-piece.ensures.read)

pub returns-in_default-clause-brings : goal.returns-in_default-clause-brings
unfolding spell
returns-in_default-clause-brings g c = λ bytes pieces more st.
    let len : length c.piece.new.piece ≡ 79 = search rules in
    rw c.bad_entry.ensures (unread bytes c.args.build.now pieces c.args.lowest more [] c.args.input.now c.piece.new.self c.piece.new.piece st c.in_ok-piece.ensures.read (sym len) (c.saved_source_of.ensures.none (search rules)))

pub returns-then-not-is_valid_saved_source-clause-brings : goal.returns-then-not-is_valid_saved_source-clause-brings
unfolding spell
returns-then-not-is_valid_saved_source-clause-brings g c = λ bytes pieces more st.
    let len : length c.piece.new.piece ≡ 79 = search rules in
    rw c.bad_entry-then-not-is_valid_saved_source.ensures (broken bytes c.args.build.now pieces (NamedDue c.args.lowest more) [] c.args.input.now c.piece.new.self (OfSavedSource c.in-Some.old) c.piece.new.piece st c.in_ok-piece.ensures.read c.in-Some.ensures.some.1 (sym len) (ReadNamed c.args.lowest more c.in-Some.old c.in-Some.ensures.some.0) (λ k. let bad : false ≡ true = sym c.if-not-is_valid_saved_source.true ∙ c.is_valid_saved_source.ensures.bad (validates c.args.build.now c.validator.result.now (NamedDue c.args.lowest more) (OfSavedSource c.in-Some.old) c.validator.ensures k) in absurd cc))

pub returns-clause-brings : goal.returns-clause-brings
unfolding spell
returns-clause-brings g c = λ bytes pieces more st.
    let len : length c.piece.new.piece ≡ 79 = search rules in
    subst (λ (l : List DueInEntry). Comes bytes c.args.build.now (pieces ++ OfSavedSource c.in-Some.old ∷ []) l c.piece.new.self) (append-nil (named_due (c.in-Some.old.number + 1) more)) (kept bytes c.args.build.now pieces (NamedDue c.args.lowest more) [] c.args.input.now c.piece.new.self (OfSavedSource c.in-Some.old) c.piece.new.piece st c.in_ok-piece.ensures.read c.in-Some.ensures.some.1 (sym len) (ReadNamed c.args.lowest more c.in-Some.old c.in-Some.ensures.some.0) (validated c.args.build.now c.validator.result.now (NamedDue c.args.lowest more) (OfSavedSource c.in-Some.old) c.validator.ensures (c.is_valid_saved_source.ensures.good c.if-not-is_valid_saved_source.false)))
