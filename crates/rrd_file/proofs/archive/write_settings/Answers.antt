use Rattle.rrd_file.proofs.Common.{◌≡◌, ◌∙◌, ◌++◌, ap, arith, RraDef, Rra, OfArchive, spell, archive_bytes, err_from_is_err_and, HasSmallNumbers, small_numbers, some_is, mapped_at, no_room, piece_added}
use Rattle.rrd_file.proofs.archive.write_settings.Goals as goal

pub archive-requires : goal.archive-requires
archive-requires g c =
    let small : HasSmallNumbers c.archive-def.result = small_numbers _ _ c.args.database.now.content.archives c.args.archive c.archive-def.result c.database_is_valid.ensures.content_is.archives_are c.archive-def.ensures in
    record { room = omega (arith, c.in_ok-make_room.ensures.room); steps = small.steps; xff = small.xff; rows = small.rows }

pub returns-in_err-make_room : goal.returns-in_err-make_room
returns-in_err-make_room g c = λ a e.
    rw (err_from_is_err_and c.from_residual.result c.from_residual.ensures.1).1 (no_room (spell (OfArchive a.def)) c.in_err-make_room.ensures.added)

pub returns : goal.returns
unfolding spell
returns g c = λ a e.
    let same : c.archive-def.result ≡ a.def = some_is _ _ (c.archive-def.ensures ∙ mapped_at (λ (archive : Rra). archive.def) c.args.database.now.content.archives c.args.archive a e) in
    piece_added (spell (OfArchive a.def)) c.in_ok-make_room.ensures.added (c.archive.ensures ∙ ap (λ (def : RraDef). c.make_room.new.self.block ++ archive_bytes def) same)
