use Rattle.rrd_file.proofs.Common.{◌∷◌, [], err_from_is_err_and, spelled, ARemoval, OfArchive, OfNumber, OfTag, spell, archive_bytes, two_bytes, no_room, piece_added, three_parts}
use Rattle.rrd_file.proofs.journal.added_removed.write_gone.Goals as goal

pub returns-in_err-make_room : goal.returns-in_err-make_room
returns-in_err-make_room g c =
    let p = err_from_is_err_and c.from_residual.result c.from_residual.ensures.1 in
    rw p.1 (no_room (spelled (OfTag ARemoval ∷ OfNumber c.args.archive ∷ OfArchive c.args.def.now ∷ [])) c.in_err-make_room.ensures.added)

pub returns : goal.returns
unfolding spell
returns g c =
    piece_added (spelled (OfTag ARemoval ∷ OfNumber c.args.archive ∷ OfArchive c.args.def.now ∷ [])) c.in_ok-make_room.ensures.added (three_parts (5 ∷ []) (two_bytes c.args.archive) (archive_bytes c.args.def.now) _ _ _ _ (rw c.tag_byte.ensures at c.byte.ensures) c.two.ensures c.archive.ensures)
