use Rattle.rrd_file.proofs.Common.{◌∷◌, [], sym, subst, map, length, spelled, OfTag, OfCount, OfSavedSource, ATune, joined_two, err_from_is_err_and, Breaks, Gathers, breaks_stop, gathers_then}
use Rattle.rrd_file.proofs.journal.tune.write_tune.Goals as goal

pub returns-in_err-write_tuned : goal.returns-in_err-write_tuned
returns-in_err-write_tuned g c =
    let p = err_from_is_err_and c.from_residual.result c.from_residual.ensures.1 in
    let olds = c.args.olds.now in
    rw p.1 (subst (Breaks _ _ _) (sym (joined_two (OfTag ATune ∷ OfCount (length olds) ∷ []) (map OfSavedSource olds))) (breaks_stop ((spelled (map OfSavedSource olds))) (c.in_err-write_tuned.ensures)))

pub returns : goal.returns
returns g c =
    let olds = c.args.olds.now in
    subst (λ bs. Gathers g.W.Write.contents c.args.out.now c.write_saved_sources.new.out bs c.write_saved_sources.result) (sym (joined_two (OfTag ATune ∷ OfCount (length olds) ∷ []) (map OfSavedSource olds))) (gathers_then c.write_saved_sources.new.out ((spelled (map OfSavedSource olds))) c.write_saved_sources.result (c.in_ok-write_tuned.ensures) (c.write_saved_sources.ensures))
