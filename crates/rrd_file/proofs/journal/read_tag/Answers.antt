use Rattle.rrd_file.proofs.Common.{◌≡◌, ◌∙◌, sym, ap, get_or, length, rules, subst, false, true, limits, IsTagWithin, err_from_is_err_and, spell, tag_byte, tag_said, came_first, cut_tag, tag_one, wrong_tag, one_byte}
use Rattle.rrd_file.proofs.journal.read_tag.Goals as goal

pub returns-in_err-piece : goal.returns-in_err-piece
returns-in_err-piece g c = λ bytes st.
    let p = err_from_is_err_and c.from_residual.result c.from_residual.ensures.1 in
    let len : length c.piece.new.piece ≡ 1 = search rules in
    rw (p.1, p.2) (cut_tag bytes c.args.build.now c.args.input.now _ _ c.requires st len c.in_err-piece.ensures.read)

pub returns-in_default : goal.returns-in_default
unfolding spell
returns-in_default g c = λ bytes st.
    let len : length c.piece.new.piece ≡ 1 = search rules in
    rw c.bad_entry.ensures (wrong_tag bytes c.args.build.now c.args.input.now c.piece.new.self c.piece.new.piece c.requires st c.in_ok-piece.ensures.read len (λ u within e. c.tag_of.ensures.none (search rules) u (ap (λ l. get_or l 0 0) e)))

pub returns-then-not-is_within : goal.returns-then-not-is_within
unfolding spell
returns-then-not-is_within g c = λ bytes st.
    let len : length c.piece.new.piece ≡ 1 = search rules in
    let tag = tag_said c.in-Some.tag in
    rw c.bad_entry-then-not-is_within.ensures (wrong_tag bytes c.args.build.now c.args.input.now c.piece.new.self c.piece.new.piece c.requires st c.in_ok-piece.ensures.read len (λ u within e.
    let byte : tag_byte u ≡ tag_byte tag = ap (λ l. get_or l 0 0) e ∙ sym c.in-Some.ensures.some in
    let bad : false ≡ true = sym c.if-not-is_within.true ∙ c.is_within.ensures.bad (subst (IsTagWithin (limits c.args.build.now)) (tag_one u tag byte) within) in absurd cc))

pub returns : goal.returns
unfolding spell
returns g c = λ bytes st.
    let len : length c.piece.new.piece ≡ 1 = search rules in
    came_first bytes c.args.build.now (tag_said c.in-Some.tag) c.args.input.now c.piece.new.self c.piece.new.piece (record { is_due = c.requires; within = c.is_within.ensures.good c.if-not-is_within.false }) st c.in_ok-piece.ensures.read (one_byte c.piece.new.piece (tag_byte (tag_said c.in-Some.tag)) len (sym c.in-Some.ensures.some)) len
