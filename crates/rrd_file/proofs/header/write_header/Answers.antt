use Rattle.rrd_file.proofs.Common.{◌≡◌, ◌∙◌, ◌++◌, [], ◌∷◌, newest, header_of, Mark, OfVersion, OfHeader, header_bytes, spell, spelled, eight_bytes, four_bytes, two_bytes, err_from_is_err_and, head_parts, six_parts, no_room, piece_added}
use Rattle.rrd_file.proofs.header.write_header.Goals as goal

pub returns-in_err-make_room : goal.returns-in_err-make_room
returns-in_err-make_room g c =
    let p = err_from_is_err_and c.from_residual.result c.from_residual.ensures.1 in
    rw p.1 (no_room (spelled (Mark ∷ OfVersion newest ∷ OfHeader (header_of newest c.args.database.now) ∷ [])) c.in_err-make_room.ensures.added)

pub returns : goal.returns
unfolding spell
returns g c =
    let d = c.args.database.now in
    let header : c.four-3.new.self ≡ c.two.new.self ++ header_bytes newest (header_of newest d) =
    six_parts (four_bytes c.step.result) (eight_bytes c.last.result) (four_bytes c.depth.result) (two_bytes c.sources.result) (two_bytes c.archives.result) (four_bytes c.undoable.result) _ _ _ _ _ _ _ c.four.ensures c.eight.ensures c.four-2.ensures c.two-2.ensures c.two-3.ensures c.four-3.ensures
    ∙ (λ i. c.two.new.self ++ (four_bytes (c.step.ensures i) ++ (eight_bytes (c.last.ensures i) ++ (four_bytes (c.depth.ensures i) ++ (two_bytes (c.sources.ensures.count i) ++ (two_bytes (c.archives.ensures.count i) ++ four_bytes (c.undoable.ensures.count i))))))) in
    piece_added (spelled (Mark ∷ OfVersion newest ∷ OfHeader (header_of newest d) ∷ [])) c.in_ok-make_room.ensures.added
    (head_parts (spell Mark) (spell (OfVersion newest)) (header_bytes newest (header_of newest d)) _ _ _ _ c.add.ensures (rw c.version_number.ensures at c.two.ensures) header)
