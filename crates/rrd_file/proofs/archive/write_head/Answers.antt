use Rattle.rrd_file.proofs.Common.{sym, subst, map, spelled, OfPrep, joined_head, err_from_is_err_and, Breaks, Gathers, breaks_stop, gathers_then}
use Rattle.rrd_file.proofs.archive.write_head.Goals as goal

pub returns-in_err-write_settings : goal.returns-in_err-write_settings
returns-in_err-write_settings g c = λ a e.
    let p = err_from_is_err_and c.from_residual.result c.from_residual.ensures.1 in
    rw p.1 (subst (Breaks _ _ _) (sym (joined_head a)) (breaks_stop ((spelled (map OfPrep a.parts))) (c.in_err-write_settings.ensures a e)))

pub returns : goal.returns
returns g c = λ a e.
    subst (λ bs. Gathers g.W.Write.contents c.args.out.now c.write_archive_preps.new.out bs c.write_archive_preps.result) (sym (joined_head a)) (gathers_then c.write_archive_preps.new.out ((spelled (map OfPrep a.parts))) c.write_archive_preps.result (c.in_ok-write_settings.ensures a e) (c.write_archive_preps.ensures a e))
