use Rattle.rrd_file.proofs.Common.{◌≡◌, sym, length, rules, ◌++◌, ◌∷◌, [], ap, subst, to_z-of_z, FitsSigned, err_from_is_err_and, EntryValidator, spell, OfPrep, w128, Consolidating, Part, IsRowPart, part_bytes, RowPrepDue, Comes, cut_within, ReadRowPrep, broken, kept, whole}
use Rattle.rrd_file.proofs.archive.read_row_prep.Goals as goal

pub returns-in_err-piece-clause-brings : goal.returns-in_err-piece-clause-brings
returns-in_err-piece-clause-brings g c = λ bytes pieces later st.
    let p = err_from_is_err_and c.from_residual.result c.from_residual.ensures.1 in
    let len : length c.piece.new.piece ≡ 20 = search rules in
    rw (p.1, p.2) (cut_within bytes c.args.build.now pieces (RowPrepDue c.args.last c.args.def.now) later c.args.input.now _ _ st (sym len) c.in_err-piece.ensures.read)

pub returns-in-Some-clause-brings : goal.returns-in-Some-clause-brings
unfolding spell
returns-in-Some-clause-brings g c = λ bytes pieces later st.
    let len : length c.piece.new.piece ≡ 20 = search rules in
    let fits : FitsSigned w128 c.part_of-known.result.1 = search rules in
    let part : Part = record { known = c.part_of-known.result.0; value = c.part_of-known.result.1 } in
    let is = whole c.piece.new.piece (part_bytes part) c.part_of-known.result.2.now 20 c.part_of-known.ensures.spelled c.part_of-known.ensures.room len in
    let both = simp (to_z-of_z {w = w128} fits) at c.in-Some.ensures.some in
    subst (λ (x : Part). Comes bytes c.args.build.now (pieces ++ OfPrep x ∷ []) later c.piece.new.self) (sym (ap (λ (x : Consolidating). x.part) both.1))
    (kept bytes c.args.build.now pieces (RowPrepDue c.args.last c.args.def.now) later c.args.input.now c.piece.new.self (OfPrep part) c.piece.new.piece st c.in_ok-piece.ensures.read is (sym len) (ReadRowPrep c.args.last c.args.def.now part (record { known = c.part_of-known.ensures.small; value = fits }))
    (subst (λ (j : EntryValidator). IsRowPart j.step c.args.last c.args.def.now part) c.validator.ensures (subst (λ (x : Part). IsRowPart c.validator.result.now.step c.args.last c.args.def.now x) (ap (λ (x : Consolidating). x.part) both.1) both.0)))

pub returns-in-None-clause-brings : goal.returns-in-None-clause-brings
unfolding spell
returns-in-None-clause-brings g c = λ bytes pieces later st.
    let len : length c.piece.new.piece ≡ 20 = search rules in
    let fits : FitsSigned w128 c.part_of-known.result.1 = search rules in
    let part : Part = record { known = c.part_of-known.result.0; value = c.part_of-known.result.1 } in
    let is = whole c.piece.new.piece (part_bytes part) c.part_of-known.result.2.now 20 c.part_of-known.ensures.spelled c.part_of-known.ensures.room len in
    rw c.bad_entry.ensures
    (broken bytes c.args.build.now pieces (RowPrepDue c.args.last c.args.def.now) later c.args.input.now c.piece.new.self (OfPrep part) c.piece.new.piece st c.in_ok-piece.ensures.read is (sym len) (ReadRowPrep c.args.last c.args.def.now part (record { known = c.part_of-known.ensures.small; value = fits }))
    (λ k. c.row_part.ensures.none (search rules) (rw (to_z-of_z {w = w128} fits) (subst (λ (j : EntryValidator). IsRowPart j.step c.args.last c.args.def.now part) (sym c.validator.ensures) k))))
