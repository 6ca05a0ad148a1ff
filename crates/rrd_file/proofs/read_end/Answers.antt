use Rattle.rrd_file.proofs.Common.{◌≡◌, ◌<◌, [], length, err_from_is_err_and, left, ended, trails, if_some_at}
use Rattle.rrd_file.proofs.read_end.Goals as goal

pub returns-in_err-is_at_end : goal.returns-in_err-is_at_end
returns-in_err-is_at_end g c = λ bytes f d st.
    let p = err_from_is_err_and c.from_residual.result c.from_residual.ensures.1 in
    rw (p.1, p.2, c.in_err-is_at_end.ensures.err) tt

pub returns-then-not-branch : goal.returns-then-not-branch
returns-then-not-branch g c = λ bytes f d st.
    rw c.at-at.ensures (trails bytes f c.args.input.now d st (λ rest e. if_some_at (left c.args.input.now) rest (λ rest. 0 < length rest) e (c.in_ok-is_at_end.ensures.more c.if-not-branch.true)))

pub returns : goal.returns
returns g c = λ bytes f d st.
    ended bytes f c.args.input.now d st (λ rest e. if_some_at (left c.args.input.now) rest (λ rest. rest ≡ []) e (c.in_ok-is_at_end.ensures.ended c.if-not-branch.false))
