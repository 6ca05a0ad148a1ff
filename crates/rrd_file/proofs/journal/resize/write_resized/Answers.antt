use Rattle.rrd_file.proofs.Common.{◌∷◌, [], spelled, four_bytes, two_bytes, three_parts, AResize, OfTag, OfNumber, OfRows, spell, err_from_is_err_and, no_room, piece_added}
use Rattle.rrd_file.proofs.journal.resize.write_resized.Goals as goal

pub returns-in_err-make_room : goal.returns-in_err-make_room
returns-in_err-make_room g c =
    let p = err_from_is_err_and c.from_residual.result c.from_residual.ensures.1 in
    rw p.1 (no_room (spelled (OfTag AResize ∷ OfNumber c.args.archive ∷ OfRows c.args.rows ∷ [])) c.in_err-make_room.ensures.added)

pub returns : goal.returns
unfolding spell
returns g c =
    piece_added (spelled (OfTag AResize ∷ OfNumber c.args.archive ∷ OfRows c.args.rows ∷ [])) c.in_ok-make_room.ensures.added (three_parts (3 ∷ []) (two_bytes c.args.archive) (four_bytes c.args.rows) _ _ _ _ (rw c.tag_byte.ensures at c.byte.ensures) c.two.ensures c.four.ensures)
