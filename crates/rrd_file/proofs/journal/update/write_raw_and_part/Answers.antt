use Rattle.rrd_file.proofs.Common.{◌≡◌, ◌∙◌, ◌++◌, ap, arith, w128, ints, to_z-of_z, SFits, of_z, to_z, Part, OfRawAndPart, spell, part_bytes, raw_bytes, two_parts, err_from_is_err_and, no_room, piece_added}
use Rattle.rrd_file.proofs.journal.update.write_raw_and_part.Goals as goal

pub returns-in_err-make_room : goal.returns-in_err-make_room
returns-in_err-make_room g c =
    let p = err_from_is_err_and c.from_residual.result c.from_residual.ensures.1 in
    rw p.1 (no_room (spell (OfRawAndPart c.args.raw c.args.prep.now)) c.in_err-make_room.ensures.added)

pub returns : goal.returns
unfolding spell
returns g c =
    let fits : SFits w128 c.sum.result = omega (arith, ints, c.sum.ensures.limit, c.known.ensures.limit, c.known.ensures.value) in
    let found : Part = record { known = c.known.result; value = to_z w128 (of_z w128 c.sum.result) } in
    let same : found ≡ c.args.prep.now = λ i. record { known = c.known.ensures.value i; value = (to_z-of_z {w = w128} fits ∙ c.sum.ensures.value) i } in
    piece_added (spell (OfRawAndPart c.args.raw c.args.prep.now)) c.in_ok-make_room.ensures.added
    (two_parts (raw_bytes c.args.raw) (part_bytes found) _ _ _ c.raw.ensures.bytes c.part.ensures.bytes
    ∙ ap (λ (p : Part). c.make_room.new.self.block ++ (raw_bytes c.args.raw ++ part_bytes p)) same)
