use Rattle.rrd_file.proofs.Common.{◌≡◌, ◌∙◌, ◌%◌, ◌++◌, ◌∷◌, [], ℕ, Some, ap, sym, subst, length, rules, to_z-of_z, FitsSigned, false, slice_get, slice_index_or, true, w128, get_or_from_slice_get, err_from_is_err_and, IsAccepted, Average, Part, DsDef, Filed, outline_left, IsPart, EntryValidator, validator, OfRawAndPart, spell, BeforeDue, Comes, FitsPart, cut_within, ReadRawAndPart, broken, kept}
use Rattle.rrd_file.proofs.journal.update.read_raw_and_part.Goals as goal

-- the validator's source is that of the outline
source_is : (f : Filed) (j : EntryValidator) (i : ℕ) (def : DsDef) → j ≡ validator f → slice_get (outline_left f).sources i ≡ Some def → slice_index_or j.outline.sources i def ≡ def
source_is f j i def is e = ap (λ (j : EntryValidator). slice_index_or j.outline.sources i def) is ∙ get_or_from_slice_get (outline_left f).sources i def def e

pub returns-in_err-piece-clause-brings : goal.returns-in_err-piece-clause-brings
returns-in_err-piece-clause-brings g c = λ bytes pieces later def e st.
    let p = err_from_is_err_and c.from_residual.result c.from_residual.ensures.1 in
    let len : length c.piece.new.piece ≡ 36 = search rules in
    rw (p.1, p.2) (cut_within bytes c.args.build.now pieces (BeforeDue c.args.last def) later c.args.input.now _ _ st (sym len) c.in_err-piece.ensures.read)

pub returns-then-not-accepts_raw-clause-brings : goal.returns-then-not-accepts_raw-clause-brings
returns-then-not-accepts_raw-clause-brings g c = λ bytes pieces later def e st.
    let len : length c.piece.new.piece ≡ 36 = search rules in
    let raw = c.before_of-raw.result.0 in
    let part : Part = record { known = c.before_of-raw.result.1; value = c.before_of-raw.result.2 } in
    let is : spell (OfRawAndPart raw part) ≡ c.piece.new.piece = c.before_of-raw.ensures.spelled in
    let fit : FitsPart part = c.before_of-raw.ensures.part in
    let same = source_is c.args.build.now c.validator.result.now c.args.source def c.validator.ensures e in
    rw c.bad_entry.ensures
    (broken bytes c.args.build.now pieces (BeforeDue c.args.last def) later c.args.input.now c.piece.new.self (OfRawAndPart raw part) c.piece.new.piece st c.in_ok-piece.ensures.read is (sym len) (ReadRawAndPart c.args.last def raw part c.before_of-raw.ensures.raw fit)
    (λ k. let bad : false ≡ true = sym c.if-not-accepts_raw.true ∙ c.accepts_raw.ensures.bad def (subst (λ (x : DsDef). IsAccepted x.kind raw) (sym same) k.0) in absurd cc))

pub returns-in-Some-clause-brings : goal.returns-in-Some-clause-brings
returns-in-Some-clause-brings g c = λ bytes pieces later def e st.
    let len : length c.piece.new.piece ≡ 36 = search rules in
    let fits : FitsSigned w128 c.before_of-raw.result.2 = search rules in
    let raw = c.before_of-raw.result.0 in
    let part : Part = record { known = c.before_of-raw.result.1; value = c.before_of-raw.result.2 } in
    let is : spell (OfRawAndPart raw part) ≡ c.piece.new.piece = c.before_of-raw.ensures.spelled in
    let fit : FitsPart part = c.before_of-raw.ensures.part in
    let same = source_is c.args.build.now c.validator.result.now c.args.source def c.validator.ensures e in
    let both = simp (to_z-of_z {w = w128} fits) at c.in-Some.ensures.some in
    subst (λ (x : Part). Comes bytes c.args.build.now (pieces ++ OfRawAndPart raw x ∷ []) later c.piece.new.self) (sym both.1)
    (kept bytes c.args.build.now pieces (BeforeDue c.args.last def) later c.args.input.now c.piece.new.self (OfRawAndPart raw part) c.piece.new.piece st c.in_ok-piece.ensures.read is (sym len) (ReadRawAndPart c.args.last def raw part c.before_of-raw.ensures.raw fit)
    (subst (λ (x : DsDef). IsAccepted x.kind raw) same (c.accepts_raw.ensures.good c.if-not-accepts_raw.false def), subst (λ (j : EntryValidator). IsPart Average (c.args.last % j.step) part) c.validator-2.ensures (subst (λ (x : Part). IsPart Average (c.args.last % c.validator-2.result.now.step) x) both.1 both.0)))

pub returns-in-Some-clause-raw : goal.returns-in-Some-clause-raw
returns-in-Some-clause-raw g c = λ def e.
    subst (λ (x : DsDef). IsAccepted x.kind c.before_of-raw.result.0) (source_is c.args.build.now c.validator.result.now c.args.source def c.validator.ensures e) (c.accepts_raw.ensures.good c.if-not-accepts_raw.false def)

pub returns-in-None-clause-brings : goal.returns-in-None-clause-brings
returns-in-None-clause-brings g c = λ bytes pieces later def e st.
    let len : length c.piece.new.piece ≡ 36 = search rules in
    let fits : FitsSigned w128 c.before_of-raw.result.2 = search rules in
    let raw = c.before_of-raw.result.0 in
    let part : Part = record { known = c.before_of-raw.result.1; value = c.before_of-raw.result.2 } in
    let is : spell (OfRawAndPart raw part) ≡ c.piece.new.piece = c.before_of-raw.ensures.spelled in
    let fit : FitsPart part = c.before_of-raw.ensures.part in
    rw c.bad_entry-in-None.ensures
    (broken bytes c.args.build.now pieces (BeforeDue c.args.last def) later c.args.input.now c.piece.new.self (OfRawAndPart raw part) c.piece.new.piece st c.in_ok-piece.ensures.read is (sym len) (ReadRawAndPart c.args.last def raw part c.before_of-raw.ensures.raw fit)
    (λ k. c.step_part.ensures.none (search rules) (rw (to_z-of_z {w = w128} fits) (subst (λ (j : EntryValidator). IsPart Average (c.args.last % j.step) part) (sym c.validator-2.ensures) k.1))))
