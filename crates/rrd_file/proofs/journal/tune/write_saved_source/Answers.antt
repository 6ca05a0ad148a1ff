use Rattle.rrd_file.proofs.Common.{◌++◌, raw_bytes, source_bytes, two_bytes, two_parts, OfSavedSource, spell, err_from_is_err_and, no_room, piece_added}
use Rattle.rrd_file.proofs.journal.tune.write_saved_source.Goals as goal

pub returns-in_err-make_room : goal.returns-in_err-make_room
returns-in_err-make_room g c =
    let p = err_from_is_err_and c.from_residual.result c.from_residual.ensures.1 in
    rw p.1 (no_room (spell (OfSavedSource c.args.old.now)) c.in_err-make_room.ensures.added)

pub returns : goal.returns
unfolding spell
returns g c =
    let old = c.args.old.now in
    piece_added (spell (OfSavedSource c.args.old.now)) c.in_ok-make_room.ensures.added
    (two_parts (two_bytes old.number ++ source_bytes old.source) (raw_bytes old.raw) _ _ _ (two_parts (two_bytes old.number) (source_bytes old.source) _ _ _ c.two.ensures c.source.ensures.bytes) c.raw.ensures.bytes)
