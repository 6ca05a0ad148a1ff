use Rattle.rrd_file.proofs.Common.{◌∙◌, ◌*◌, ◌++◌, ℕ, List, sym, ap, map, replicate, subst, err_from_is_err_and, AllByRecursion, IsBounded, IsRow, OfCell, Piece, RowCellDue, Comes, bounded_rows, pieces_of_cells}
use Rattle.rrd_file.proofs.journal.rows.read_saved_rows.Goals as goal

pub returns-in_err-cells-clause-brings : goal.returns-in_err-cells-clause-brings
returns-in_err-cells-clause-brings g c = λ bytes pieces later st.
    let p = err_from_is_err_and c.from_residual.result c.from_residual.ensures.1 in
    rw (p.1, p.2) (c.in_err-cells.ensures.brings bytes pieces later
    (subst (λ (k : ℕ). Comes bytes c.args.build.now pieces (replicate (c.args.count * k) RowCellDue ++ later) c.args.input.now) (sym c.sources-sources.ensures.count) st))

pub returns-clause-brings : goal.returns-clause-brings
returns-clause-brings g c = λ bytes pieces later st.
    let f = c.args.build.now in
    let same = ap (map OfCell) (sym c.from_cells.ensures.cells) ∙ pieces_of_cells c.from_cells.result in
    subst (λ (l : List Piece). Comes bytes f (pieces ++ l) later c.read_saved_cells.new.input) same
    (c.in_ok-cells.ensures.brings bytes pieces later
    (subst (λ (k : ℕ). Comes bytes f pieces (replicate (c.args.count * k) RowCellDue ++ later) c.args.input.now) (sym c.sources-sources.ensures.count) st))

pub returns-clause-each_row : goal.returns-clause-each_row
returns-clause-each_row g c =
    let rows = c.from_cells.result in
    subst (λ (width : ℕ). AllByRecursion (IsRow width) rows) c.sources-sources.ensures.count
    (bounded_rows c.sources-sources.result rows c.from_cells.ensures.each_row (subst (AllByRecursion IsBounded) (sym c.from_cells.ensures.cells) c.in_ok-cells.ensures.bounded))
