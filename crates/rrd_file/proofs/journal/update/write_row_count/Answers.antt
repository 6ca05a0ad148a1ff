use Rattle.rrd_file.proofs.Common.{OfRows, spell, err_from_is_err_and, no_room, piece_added}
use Rattle.rrd_file.proofs.journal.update.write_row_count.Goals as goal

pub returns-in_err-make_room : goal.returns-in_err-make_room
returns-in_err-make_room g c =
    rw (err_from_is_err_and c.from_residual.result c.from_residual.ensures.1).1 (no_room (spell (OfRows c.args.rows)) c.in_err-make_room.ensures.added)

pub returns : goal.returns
unfolding spell
returns g c =
    piece_added (spell (OfRows c.args.rows)) c.in_ok-make_room.ensures.added c.four.ensures
