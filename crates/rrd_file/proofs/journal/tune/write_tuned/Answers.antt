use Rattle.rrd_file.proofs.Common.{◌∷◌, [], spelled, two_bytes, two_parts, ATune, OfTag, OfCount, spell, err_from_is_err_and, no_room, piece_added}
use Rattle.rrd_file.proofs.journal.tune.write_tuned.Goals as goal

pub returns-in_err-make_room : goal.returns-in_err-make_room
returns-in_err-make_room g c =
    let p = err_from_is_err_and c.from_residual.result c.from_residual.ensures.1 in
    rw p.1 (no_room (spelled (OfTag ATune ∷ OfCount c.args.count ∷ [])) c.in_err-make_room.ensures.added)

pub returns : goal.returns
unfolding spell
returns g c =
    piece_added (spelled (OfTag ATune ∷ OfCount c.args.count ∷ [])) c.in_ok-make_room.ensures.added (two_parts (2 ∷ []) (two_bytes c.args.count) _ _ _ (rw c.tag_byte.ensures at c.byte.ensures) c.two.ensures)
