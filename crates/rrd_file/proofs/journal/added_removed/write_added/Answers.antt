use Rattle.rrd_file.proofs.Common.{◌∷◌, [], err_from_is_err_and, spelled, AnAddition, OfTag, no_room}
use Rattle.rrd_file.proofs.journal.added_removed.write_added.Goals as goal

pub returns-in_err-make_room : goal.returns-in_err-make_room
returns-in_err-make_room g c =
    rw (err_from_is_err_and c.from_residual.result c.from_residual.ensures.1).1 (no_room (spelled (OfTag AnAddition ∷ [])) c.in_err-make_room.ensures.added)
