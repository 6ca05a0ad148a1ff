use Rattle.rrd_file.proofs.Common.{◌++◌, ◌∷◌, [], map, sym, subst, err_from_is_err_and, Breaks, Gathers, row_pieces, spelled, ARemoval, OfArchive, OfNumber, OfPrep, OfTag, breaks_stop, breaks_then, gathers_then, joined_three}
use Rattle.rrd_file.proofs.journal.added_removed.write_removed.Goals as goal

pub returns-in_err-write_gone : goal.returns-in_err-write_gone
returns-in_err-write_gone g c =
    let p = err_from_is_err_and c.from_residual.result c.from_residual.ensures.1 in
    let a = c.args.old.now in
    rw p.1 (subst (Breaks _ _ _) (sym (joined_three (OfTag ARemoval ∷ OfNumber c.args.archive ∷ OfArchive a.def ∷ []) (map OfPrep a.parts) (row_pieces a.rows))) (breaks_stop (spelled (map OfPrep a.parts) ++ spelled (row_pieces a.rows)) (rw c.def.ensures at c.in_err-write_gone.ensures)))

pub returns-in_err-write_preps : goal.returns-in_err-write_preps
returns-in_err-write_preps g c =
    let p = err_from_is_err_and c.from_residual-in_err-write_preps.result c.from_residual-in_err-write_preps.ensures.1 in
    let a = c.args.old.now in
    rw p.1 (subst (Breaks _ _ _) (sym (joined_three (OfTag ARemoval ∷ OfNumber c.args.archive ∷ OfArchive a.def ∷ []) (map OfPrep a.parts) (row_pieces a.rows))) (breaks_then (rw c.def.ensures at c.in_ok-write_gone.ensures) (breaks_stop (spelled (row_pieces a.rows)) (rw c.preps.ensures.parts at c.in_err-write_preps.ensures))))

pub returns : goal.returns
returns g c =
    let a = c.args.old.now in
    let out = c.write_rows.new.out in
    subst (λ bs. Gathers g.W.Write.contents c.args.out.now out bs c.write_rows.result) (sym (joined_three (OfTag ARemoval ∷ OfNumber c.args.archive ∷ OfArchive a.def ∷ []) (map OfPrep a.parts) (row_pieces a.rows)))
    (gathers_then out (spelled (map OfPrep a.parts) ++ spelled (row_pieces a.rows)) c.write_rows.result (rw c.def.ensures at c.in_ok-write_gone.ensures)
    (gathers_then out (spelled (row_pieces a.rows)) c.write_rows.result (rw c.preps.ensures.parts at c.in_ok-write_preps.ensures) (rw c.archive.ensures at c.write_rows.ensures)))
