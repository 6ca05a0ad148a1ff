use Rattle.rrd_file.proofs.Common.{◌∙◌, ◌++◌, ◌∷◌, [], List, sym, subst, append_assoc, length, map, replicate, err_from_is_err_and, Consolidating, Outline, Rra, parts_in, RemovedEntry, outline_left, entry_pieces, row_pieces, ARemoval, OfArchive, OfNumber, OfPrep, OfTag, Piece, Comes, DueInEntry, RowPrepDue, cells_due}
use Rattle.rrd_file.proofs.journal.added_removed.read_removed.Goals as goal

pub returns-in_err-archive-clause-closes : goal.returns-in_err-archive-clause-closes
returns-in_err-archive-clause-closes g c = λ bytes st.
    let p = err_from_is_err_and c.from_residual.result c.from_residual.ensures.1 in
    rw (p.1, p.2) (c.in_err-archive.ensures bytes (OfTag ARemoval ∷ []) [] st)

pub returns-in_err-def-clause-closes : goal.returns-in_err-def-clause-closes
returns-in_err-def-clause-closes g c = λ bytes st.
    let p = err_from_is_err_and c.from_residual-in_err-def.result c.from_residual-in_err-def.ensures.1 in
    let s1 = c.in_ok-archive.ensures bytes (OfTag ARemoval ∷ []) [] st in
    rw (p.1, p.2) (c.in_err-def.ensures.brings bytes (OfTag ARemoval ∷ OfNumber c.in_ok-archive.archive ∷ []) [] s1)

pub returns-in_err-preps-clause-closes : goal.returns-in_err-preps-clause-closes
returns-in_err-preps-clause-closes g c = λ bytes st.
    let p = err_from_is_err_and c.from_residual-in_err-preps.result c.from_residual-in_err-preps.ensures.1 in
    let f = c.args.build.now in
    let now = outline_left f in
    let def = c.in_ok-def.def in
    let first = OfTag ARemoval ∷ OfNumber c.in_ok-archive.archive ∷ OfArchive def ∷ [] in
    let cells = cells_due def.rows now in
    let s1 = c.in_ok-archive.ensures bytes (OfTag ARemoval ∷ []) [] st in
    let s2 = c.in_ok-def.ensures.brings bytes (OfTag ARemoval ∷ OfNumber c.in_ok-archive.archive ∷ []) [] s1 in
    let s3 = subst (λ (l : List DueInEntry). Comes bytes f first l c.read_removed_settings.new.input) (append_assoc (replicate (length now.sources) (RowPrepDue now.last def)) cells []) s2 in
    let s4 = subst (λ (o : Outline). Comes bytes f first (replicate (length now.sources) (RowPrepDue o.last def) ++ (cells ++ [])) c.read_removed_settings.new.input) (sym c.undone.ensures) s3 in
    rw (p.1, p.2) (c.in_err-preps.ensures.brings bytes first (cells ++ []) s4)

pub returns-in_err-rows-clause-closes : goal.returns-in_err-rows-clause-closes
returns-in_err-rows-clause-closes g c = λ bytes st.
    let p = err_from_is_err_and c.from_residual-in_err-rows.result c.from_residual-in_err-rows.ensures.1 in
    let f = c.args.build.now in
    let now = outline_left f in
    let def = c.in_ok-def.def in
    let first = OfTag ARemoval ∷ OfNumber c.in_ok-archive.archive ∷ OfArchive def ∷ [] in
    let cells = cells_due def.rows now in
    let s1 = c.in_ok-archive.ensures bytes (OfTag ARemoval ∷ []) [] st in
    let s2 = c.in_ok-def.ensures.brings bytes (OfTag ARemoval ∷ OfNumber c.in_ok-archive.archive ∷ []) [] s1 in
    let s3 = subst (λ (l : List DueInEntry). Comes bytes f first l c.read_removed_settings.new.input) (append_assoc (replicate (length now.sources) (RowPrepDue now.last def)) cells []) s2 in
    let s4 = subst (λ (o : Outline). Comes bytes f first (replicate (length now.sources) (RowPrepDue o.last def) ++ (cells ++ [])) c.read_removed_settings.new.input) (sym c.undone.ensures) s3 in
    let s5 = c.in_ok-preps.ensures.brings bytes first (cells ++ []) s4 in
    rw (p.1, p.2) (c.in_err-rows.ensures.brings bytes (first ++ (map OfPrep (parts_in c.in_ok-preps.preps.items))) [] s5)

pub returns-clause-closes : goal.returns-clause-closes
returns-clause-closes g c = λ bytes st.
    let f = c.args.build.now in
    let now = outline_left f in
    let def = c.in_ok-def.def in
    let first = OfTag ARemoval ∷ OfNumber c.in_ok-archive.archive ∷ OfArchive def ∷ [] in
    let cells = cells_due def.rows now in
    let s1 = c.in_ok-archive.ensures bytes (OfTag ARemoval ∷ []) [] st in
    let s2 = c.in_ok-def.ensures.brings bytes (OfTag ARemoval ∷ OfNumber c.in_ok-archive.archive ∷ []) [] s1 in
    let s3 = subst (λ (l : List DueInEntry). Comes bytes f first l c.read_removed_settings.new.input) (append_assoc (replicate (length now.sources) (RowPrepDue now.last def)) cells []) s2 in
    let s4 = subst (λ (o : Outline). Comes bytes f first (replicate (length now.sources) (RowPrepDue o.last def) ++ (cells ++ [])) c.read_removed_settings.new.input) (sym c.undone.ensures) s3 in
    let parts = map OfPrep (parts_in c.in_ok-preps.preps.items) in
    let rows = c.in_ok-rows.rows in
    let s6 = c.in_ok-rows.ensures.brings bytes (first ++ parts) [] (c.in_ok-preps.ensures.brings bytes first (cells ++ []) s4) in
    subst (λ (a : Rra). Comes bytes f (entry_pieces (RemovedEntry c.in_ok-archive.archive a)) [] c.read_old_rows.new.input) (sym c.from_parts-old.ensures)
    (subst (λ (ps : List Consolidating). Comes bytes f (first ++ (map OfPrep (parts_in ps) ++ row_pieces rows)) [] c.read_old_rows.new.input) (sym (c.in_ok-preps-2.ensures.items ∙ c.as_slice.ensures))
    (subst (λ (l : List Piece). Comes bytes f l [] c.read_old_rows.new.input) (append_assoc first parts (row_pieces rows)) s6))
