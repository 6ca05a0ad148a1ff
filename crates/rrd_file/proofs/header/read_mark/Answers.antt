use Rattle.rrd_file.proofs.Common.{◌≡◌, length, rules, err_from_is_err_and, Mark, spell, cut_mark, mark_refused, mark_taken, other_bytes, same_bytes}
use Rattle.rrd_file.proofs.header.read_mark.Goals as goal

pub returns-in_err-piece : goal.returns-in_err-piece
returns-in_err-piece g c = λ bytes st.
    let p = err_from_is_err_and c.from_residual.result c.from_residual.ensures.1 in
    let len : length c.piece.new.piece ≡ 4 = search rules in
    rw (p.1, p.2) (cut_mark bytes c.args.input.now _ _ len st c.in_err-piece.ensures.read)

pub returns-then-ne : goal.returns-then-ne
unfolding spell
returns-then-ne g c = λ bytes st.
    let len : length c.piece.new.piece ≡ 4 = search rules in
    mark_refused bytes c.piece.new.piece c.args.input.now c.piece.new.self st c.in_ok-piece.ensures.read len (other_bytes c.piece.new.piece (spell Mark) c.if-ne.ensures)

pub returns : goal.returns
unfolding spell
returns g c = λ bytes st.
    mark_taken bytes c.piece.new.piece c.args.input.now c.piece.new.self st c.in_ok-piece.ensures.read (same_bytes c.piece.new.piece (spell Mark) c.if-ne.ensures)
