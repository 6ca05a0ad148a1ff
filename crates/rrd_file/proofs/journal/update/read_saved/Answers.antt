use Rattle.rrd_file.proofs.Common.{◌≡◌, ◌∙◌, ◌++◌, ◌∷◌, [], ℕ, List, Some, sym, subst, append_assoc, length, map, min, replicate, slice_get, err_from_is_err_and, RraDef, parts_in, rows_between, outline_left, EntryValidator, OfPrep, OfRows, DueInEntry, RowPrepDue, RowsDue, archive_due, cells_due, Comes, some_is}
use Rattle.rrd_file.proofs.journal.update.read_saved.Goals as goal

pub returns-in_err-preps-clause-brings : goal.returns-in_err-preps-clause-brings
returns-in_err-preps-clause-brings g c = λ bytes pieces later asked at came.
    let def = c.archive-def.result.now in
    let e : slice_get (outline_left c.args.build.now).archives c.args.archive ≡ Some def = subst (λ (j : EntryValidator). slice_get j.outline.archives c.args.archive ≡ Some def) c.validator.ensures c.archive-def.ensures.value in
    let st = subst (λ (d : RraDef). Comes bytes c.args.build.now pieces (archive_due c.args.build.now.header.step (outline_left c.args.build.now) c.args.last d ++ later) c.args.input.now) (some_is asked def (sym at ∙ e)) came in
    let p = err_from_is_err_and c.from_residual.result c.from_residual.ensures.1 in
    let now = outline_left c.args.build.now in
    let r = min (rows_between c.args.build.now.header.step def c.args.last now.last) def.rows in
    let s0 = subst (λ (l : List DueInEntry). Comes bytes c.args.build.now pieces l c.args.input.now) (append_assoc (replicate (length now.sources) (RowPrepDue c.args.last def)) (RowsDue r ∷ cells_due r now) later) st in
    rw (p.1, p.2) (c.in_err-preps.ensures.brings bytes pieces (RowsDue r ∷ (cells_due r now ++ later)) s0)

pub returns-in_err-count-clause-brings : goal.returns-in_err-count-clause-brings
returns-in_err-count-clause-brings g c = λ bytes pieces later asked at came.
    let def = c.archive-def.result.now in
    let e : slice_get (outline_left c.args.build.now).archives c.args.archive ≡ Some def = subst (λ (j : EntryValidator). slice_get j.outline.archives c.args.archive ≡ Some def) c.validator.ensures c.archive-def.ensures.value in
    let st = subst (λ (d : RraDef). Comes bytes c.args.build.now pieces (archive_due c.args.build.now.header.step (outline_left c.args.build.now) c.args.last d ++ later) c.args.input.now) (some_is asked def (sym at ∙ e)) came in
    let p = err_from_is_err_and c.from_residual-in_err-count.result c.from_residual-in_err-count.ensures.1 in
    let now = outline_left c.args.build.now in
    let r = min (rows_between c.args.build.now.header.step def c.args.last now.last) def.rows in
    let s0 = subst (λ (l : List DueInEntry). Comes bytes c.args.build.now pieces l c.args.input.now) (append_assoc (replicate (length now.sources) (RowPrepDue c.args.last def)) (RowsDue r ∷ cells_due r now) later) st in
    let s1 = c.in_ok-preps.ensures.brings bytes pieces (RowsDue r ∷ (cells_due r now ++ later)) s0 in
    rw (p.1, p.2) (c.in_err-count.ensures.brings bytes (pieces ++ map OfPrep (parts_in c.in_ok-preps.preps.items)) (cells_due r now ++ later) s1)

pub returns-in_err-rows-clause-brings : goal.returns-in_err-rows-clause-brings
returns-in_err-rows-clause-brings g c = λ bytes pieces later asked at came.
    let def = c.archive-def.result.now in
    let e : slice_get (outline_left c.args.build.now).archives c.args.archive ≡ Some def = subst (λ (j : EntryValidator). slice_get j.outline.archives c.args.archive ≡ Some def) c.validator.ensures c.archive-def.ensures.value in
    let st = subst (λ (d : RraDef). Comes bytes c.args.build.now pieces (archive_due c.args.build.now.header.step (outline_left c.args.build.now) c.args.last d ++ later) c.args.input.now) (some_is asked def (sym at ∙ e)) came in
    let p = err_from_is_err_and c.from_residual-in_err-rows.result c.from_residual-in_err-rows.ensures.1 in
    let now = outline_left c.args.build.now in
    let r = min (rows_between c.args.build.now.header.step def c.args.last now.last) def.rows in
    let s0 = subst (λ (l : List DueInEntry). Comes bytes c.args.build.now pieces l c.args.input.now) (append_assoc (replicate (length now.sources) (RowPrepDue c.args.last def)) (RowsDue r ∷ cells_due r now) later) st in
    let s1 = c.in_ok-preps.ensures.brings bytes pieces (RowsDue r ∷ (cells_due r now ++ later)) s0 in
    let s2 = c.in_ok-count.ensures.brings bytes (pieces ++ map OfPrep (parts_in c.in_ok-preps.preps.items)) (cells_due r now ++ later) s1 in
    let s2b = subst (λ (k : ℕ). Comes bytes c.args.build.now ((pieces ++ map OfPrep (parts_in c.in_ok-preps.preps.items)) ++ OfRows c.in_ok-count.count ∷ []) (cells_due k now ++ later) c.read_row_count.new.input) (sym c.in_ok-count.ensures.value) s2 in
    rw (p.1, p.2) (c.in_err-rows.ensures.brings bytes ((pieces ++ map OfPrep (parts_in c.in_ok-preps.preps.items)) ++ OfRows c.in_ok-count.count ∷ []) later s2b)
