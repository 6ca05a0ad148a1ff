use Rattle.rrd_file.proofs.Common.{◌≡◌, ◌∙◌, sym, length, rules, err_from_is_err_and, spell, OfCell, false, true, cell_bytes, cut_within, broken, kept, ReadRowCell, whole, RowCellDue}
use Rattle.rrd_file.proofs.journal.rows.read_row_cell.Goals as goal

pub returns-in_err-piece-clause-brings : goal.returns-in_err-piece-clause-brings
returns-in_err-piece-clause-brings g c = λ bytes pieces later st.
    let p = err_from_is_err_and c.from_residual.result c.from_residual.ensures.1 in
    let len : length c.piece.new.piece ≡ 16 = search rules in
    rw (p.1, p.2) (cut_within bytes c.args.build.now pieces RowCellDue later c.args.input.now _ _ st (sym len) c.in_err-piece.ensures.read)

pub returns-then-not-is_bounded-clause-brings : goal.returns-then-not-is_bounded-clause-brings
unfolding spell
returns-then-not-is_bounded-clause-brings g c = λ bytes pieces later st.
    let len : length c.piece.new.piece ≡ 16 = search rules in
    rw c.bad_entry.ensures (broken bytes c.args.build.now pieces RowCellDue later c.args.input.now c.piece.new.self (OfCell c.cell_of-cell.result.0) c.piece.new.piece st c.in_ok-piece.ensures.read (whole c.piece.new.piece (cell_bytes c.cell_of-cell.result.0) c.cell_of-cell.result.1.now 16 c.cell_of-cell.ensures.spelled c.cell_of-cell.ensures.room len) (sym len) (ReadRowCell c.cell_of-cell.result.0 c.cell_of-cell.ensures.fits) (λ k. let bad : false ≡ true = sym c.if-not-is_bounded.true ∙ c.is_bounded.ensures.bad k in absurd cc))

pub returns-clause-brings : goal.returns-clause-brings
unfolding spell
returns-clause-brings g c = λ bytes pieces later st.
    let len : length c.piece.new.piece ≡ 16 = search rules in
    kept bytes c.args.build.now pieces RowCellDue later c.args.input.now c.piece.new.self (OfCell c.cell_of-cell.result.0) c.piece.new.piece st c.in_ok-piece.ensures.read (whole c.piece.new.piece (cell_bytes c.cell_of-cell.result.0) c.cell_of-cell.result.1.now 16 c.cell_of-cell.ensures.spelled c.cell_of-cell.ensures.room len) (sym len) (ReadRowCell c.cell_of-cell.result.0 c.cell_of-cell.ensures.fits) (c.is_bounded.ensures.good c.if-not-is_bounded.false)
