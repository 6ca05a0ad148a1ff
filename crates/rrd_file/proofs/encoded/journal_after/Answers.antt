use Rattle.rrd_file.proofs.Common.{◌≡◌, ◌∙◌, ◌++◌, List, ℕ, ap, arith, flat_map, length-take, min, rules, take, entry_pieces, spelled, journal_joined, stay_within}
use Rattle.rrd_file.proofs.encoded.journal_after.Goals as goal

pub slice_bounds-extend_from_slice-end : goal.slice_bounds-extend_from_slice-end
slice_bounds-extend_from_slice-end c =
    let is = c.min-newest.ensures ∙ ap (min c.args.updates) c.undoable.ensures.count in
    omega (arith, length-take c.entries_length-stay.result c.args.before.now, c.entries_length-stay.ensures.count, stay_within c.args.before.now c.args.updates c.min-newest.result c.args.database.now c.requires is)

pub returns : goal.returns
returns c =
    let is = c.min-newest.ensures ∙ ap (min c.args.updates) c.undoable.ensures.count in
    let stay = c.entries_length-stay.result in
    let first : c.encode_newest.new.out.items ≡ spelled (flat_map entry_pieces (take c.min-newest.result c.args.database.now.journal)) = search rules in
    let all : c.extend_from_slice.new.self.items ≡ c.encode_newest.new.out.items ++ take stay c.args.before.now = search rules in
    all ∙ ap (λ (l : List ℕ). l ++ take stay c.args.before.now) first
    ∙ journal_joined c.args.before.now c.args.updates c.min-newest.result c.args.database.now c.requires is stay c.entries_length-stay.ensures.count
