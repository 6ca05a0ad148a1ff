use Rattle.rrd_file.proofs.Common.{◌≡◌, ◌∙◌, ◌++◌, ap, arith, w128, ints, to_z-of_z, SFits, of_z, to_z, Part, OfPrep, spell, part_bytes, err_from_is_err_and, no_room, piece_added}
use Rattle.rrd_file.proofs.archive.write_prep.Goals as goal

pub returns-in_err-make_room : goal.returns-in_err-make_room
returns-in_err-make_room g c =
    rw (err_from_is_err_and c.from_residual.result c.from_residual.ensures.1).1 (no_room (spell (OfPrep c.args.prep.part)) c.in_err-make_room.ensures.added)

pub returns : goal.returns
unfolding spell
returns g c =
    let fits : SFits w128 c.value.result = omega (arith, ints, c.value.ensures.limit) in
    let found : Part = record { known = c.known.result; value = to_z w128 (of_z w128 c.value.result) } in
    let same : found ≡ c.args.prep.part = λ i. record { known = c.known.ensures.value i; value = (to_z-of_z {w = w128} fits ∙ c.value.ensures.value) i } in
    piece_added (spell (OfPrep c.args.prep.part)) c.in_ok-make_room.ensures.added
    (c.part.ensures.bytes ∙ ap (λ (p : Part). c.make_room.new.self.block ++ part_bytes p) same)
