use Rattle.rrd_file.proofs.Common.{◌≡◌, length, rules, sym, err_from_is_err_and, two_bytes, cut_version, version_refused, version_taken, whole}
use Rattle.rrd_file.proofs.header.read_version.Goals as goal

pub returns-in_err-piece : goal.returns-in_err-piece
returns-in_err-piece g c = λ bytes st.
    let p = err_from_is_err_and c.from_residual.result c.from_residual.ensures.1 in
    let len : length c.piece.new.piece ≡ 2 = search rules in
    rw (p.1, p.2) (cut_version bytes c.args.input.now _ _ len st c.in_err-piece.ensures.read)

pub returns-in-Some : goal.returns-in-Some
returns-in-Some g c = λ bytes st.
    let len : length c.piece.new.piece ≡ 2 = search rules in
    let is = whole c.piece.new.piece (two_bytes c.two_of-number.result.0) c.two_of-number.result.1.now 2 c.two_of-number.ensures.spelled c.two_of-number.ensures.room len in
    version_taken c.in-Some.version bytes c.piece.new.piece c.args.input.now c.piece.new.self c.two_of-number.result.0 st c.in_ok-piece.ensures.read is (sym c.in-Some.ensures.some)

pub returns-in-None : goal.returns-in-None
returns-in-None g c = λ bytes st.
    let len : length c.piece.new.piece ≡ 2 = search rules in
    let is = whole c.piece.new.piece (two_bytes c.two_of-number.result.0) c.two_of-number.result.1.now 2 c.two_of-number.ensures.spelled c.two_of-number.ensures.room len in
    version_refused bytes c.piece.new.piece c.args.input.now c.piece.new.self c.two_of-number.result.0 st c.in_ok-piece.ensures.read len is c.two_of-number.ensures.small (c.version_of.ensures.none (search rules))
