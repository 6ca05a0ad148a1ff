use Rattle.rrd_file.proofs.Common.{◌∙◌, ◌++◌, sym, subst, ap, length, row_pieces, spelled, OfRows, spell, joined_saved, err_from_is_err_and, Breaks, Gathers, breaks_stop, gathers_then, breaks_then}
use Rattle.rrd_file.proofs.journal.update.write_saved.Goals as goal

pub returns-in_err-write_preps : goal.returns-in_err-write_preps
returns-in_err-write_preps g c =
    let p = err_from_is_err_and c.from_residual.result c.from_residual.ensures.1 in
    let old = c.args.saved.now in
    rw p.1 (subst (Breaks _ _ _) (sym (joined_saved old)) (breaks_stop ((spell (OfRows (length old.rows))) ++ (spelled (row_pieces old.rows))) (rw c.preps.ensures.parts at c.in_err-write_preps.ensures)))

pub returns-in_err-write_row_count : goal.returns-in_err-write_row_count
returns-in_err-write_row_count g c =
    let p = err_from_is_err_and c.from_residual-in_err-write_row_count.result c.from_residual-in_err-write_row_count.ensures.1 in
    let old = c.args.saved.now in
    rw p.1 (subst (Breaks _ _ _) (sym (joined_saved old)) (breaks_then (rw c.preps.ensures.parts at c.in_ok-write_preps.ensures) (breaks_stop ((spelled (row_pieces old.rows))) (rw (c.len.ensures.count ∙ ap length c.rows.ensures) at c.in_err-write_row_count.ensures))))

pub returns : goal.returns
returns g c =
    let old = c.args.saved.now in
    subst (λ bs. Gathers g.W.Write.contents c.args.out.now c.write_rows.new.out bs c.write_rows.result) (sym (joined_saved old)) (gathers_then c.write_rows.new.out ((spell (OfRows (length old.rows))) ++ (spelled (row_pieces old.rows))) c.write_rows.result (rw c.preps.ensures.parts at c.in_ok-write_preps.ensures) (gathers_then c.write_rows.new.out ((spelled (row_pieces old.rows))) c.write_rows.result (rw (c.len.ensures.count ∙ ap length c.rows.ensures) at c.in_ok-write_row_count.ensures) (rw c.rows-2.ensures at c.write_rows.ensures)))
