use Rattle.rrd_file.proofs.Common.{◌∷◌, [], sym, subst, length, row_pieces, spelled, OfTag, OfNumber, OfRows, AResize, joined_two, err_from_is_err_and, Breaks, Gathers, breaks_stop, gathers_then}
use Rattle.rrd_file.proofs.journal.resize.write_resize.Goals as goal

pub returns-in_err-write_resized : goal.returns-in_err-write_resized
returns-in_err-write_resized g c =
    let p = err_from_is_err_and c.from_residual.result c.from_residual.ensures.1 in
    let rows = c.args.old.now in
    rw p.1 (subst (Breaks _ _ _) (sym (joined_two (OfTag AResize ∷ OfNumber c.args.archive ∷ OfRows (length rows) ∷ []) (row_pieces rows))) (breaks_stop ((spelled (row_pieces rows))) (rw c.rows.ensures.count at c.in_err-write_resized.ensures)))

pub returns : goal.returns
returns g c =
    let rows = c.args.old.now in
    subst (λ bs. Gathers g.W.Write.contents c.args.out.now c.write_rows.new.out bs c.write_rows.result) (sym (joined_two (OfTag AResize ∷ OfNumber c.args.archive ∷ OfRows (length rows) ∷ []) (row_pieces rows))) (gathers_then c.write_rows.new.out ((spelled (row_pieces rows))) c.write_rows.result (rw c.rows.ensures.count at c.in_ok-write_resized.ensures) (c.write_rows.ensures))
