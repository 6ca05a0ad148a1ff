use Rattle.rrd_file.proofs.Common.{◌++◌, ◌∷◌, [], sym, subst, flat_map, saved_pieces, raws_and_parts, spelled, OfTag, OfTime, AnUpdate, joined_three, err_from_is_err_and, Breaks, Gathers, breaks_stop, gathers_then, breaks_then}
use Rattle.rrd_file.proofs.journal.update.write_update.Goals as goal

pub returns-in_err-write_time : goal.returns-in_err-write_time
returns-in_err-write_time g c =
    let p = err_from_is_err_and c.from_residual.result c.from_residual.ensures.1 in
    let b = c.args.before.now in
    rw p.1 (subst (Breaks _ _ _) (sym (joined_three (OfTag AnUpdate ∷ OfTime b.last ∷ []) (raws_and_parts b.raws.items b.preps.items) (flat_map saved_pieces b.archives.items))) (breaks_stop ((spelled (raws_and_parts b.raws.items b.preps.items)) ++ (spelled (flat_map saved_pieces b.archives.items))) (c.in_err-write_time.ensures)))

pub returns-in_err-write_raws_and_parts : goal.returns-in_err-write_raws_and_parts
returns-in_err-write_raws_and_parts g c =
    let p = err_from_is_err_and c.from_residual-in_err-write_raws_and_parts.result c.from_residual-in_err-write_raws_and_parts.ensures.1 in
    let b = c.args.before.now in
    rw p.1 (subst (Breaks _ _ _) (sym (joined_three (OfTag AnUpdate ∷ OfTime b.last ∷ []) (raws_and_parts b.raws.items b.preps.items) (flat_map saved_pieces b.archives.items))) (breaks_then (c.in_ok-write_time.ensures) (breaks_stop ((spelled (flat_map saved_pieces b.archives.items))) (rw (c.deref.ensures, c.deref-2.ensures) at c.in_err-write_raws_and_parts.ensures))))

pub returns : goal.returns
returns g c =
    let b = c.args.before.now in
    subst (λ bs. Gathers g.W.Write.contents c.args.out.now c.write_all_saved.new.out bs c.write_all_saved.result) (sym (joined_three (OfTag AnUpdate ∷ OfTime b.last ∷ []) (raws_and_parts b.raws.items b.preps.items) (flat_map saved_pieces b.archives.items))) (gathers_then c.write_all_saved.new.out ((spelled (raws_and_parts b.raws.items b.preps.items)) ++ (spelled (flat_map saved_pieces b.archives.items))) c.write_all_saved.result (c.in_ok-write_time.ensures) (gathers_then c.write_all_saved.new.out ((spelled (flat_map saved_pieces b.archives.items))) c.write_all_saved.result (rw (c.deref.ensures, c.deref-2.ensures) at c.in_ok-write_raws_and_parts.ensures) (rw c.deref-3.ensures.value at c.write_all_saved.ensures)))
