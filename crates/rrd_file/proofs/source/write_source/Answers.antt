use Rattle.rrd_file.proofs.Common.{◌≡◌, ◌∙◌, ◌++◌, sym, ap, arith, w128, ints, to_z-of_z, SFits, of_z, to_z, Part, Source, OfSource, spell, part_bytes, raw_bytes, source_bytes, err_from_is_err_and, source_at, two_parts, no_room, piece_added}
use Rattle.rrd_file.proofs.source.write_source.Goals as goal

pub returns-in_err-make_room : goal.returns-in_err-make_room
returns-in_err-make_room g c = λ s e.
    rw (err_from_is_err_and c.from_residual.result c.from_residual.ensures.1).1 (no_room (spell (OfSource s)) c.in_err-make_room.ensures.added)

pub returns : goal.returns
unfolding spell
returns g c = λ s e.
    let fits : SFits w128 c.sum.result = omega (arith, ints, c.sum.ensures.limit, c.known.ensures.limit, c.known.ensures.value) in
    let found : Source = record { def = c.source.result.now; raw = c.last_raw.result; part = record { known = c.known.result; value = to_z w128 (of_z w128 c.sum.result) } } in
    let same : found ≡ s = (λ i. record { def = c.source.ensures i; raw = c.last_raw.ensures i; part = record { known = (c.known.ensures.value ∙ ap (λ (p : Part). p.known) c.step_prep-prep.ensures) i; value = (to_z-of_z {w = w128} fits ∙ c.sum.ensures.value ∙ ap (λ (p : Part). p.value) c.step_prep-prep.ensures) i } }) ∙ sym (source_at _ _ _ c.args.number s c.source.result.now e) in
    piece_added (spell (OfSource s)) c.in_ok-make_room.ensures.added
    (two_parts (source_bytes found.def ++ raw_bytes found.raw) (part_bytes found.part) _ _ _ (two_parts (source_bytes found.def) (raw_bytes found.raw) _ _ _ c.source-2.ensures.bytes c.raw.ensures.bytes) c.part.ensures.bytes
    ∙ ap (λ x. c.make_room.new.self.block ++ spell (OfSource x)) same)
