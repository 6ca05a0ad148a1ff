use Rattle.rrd_tool.proofs.Common.{◌≡◌, ◌+◌, sym, nat_eq, get_or, false, arith, length, nat_tests, cr_dropped, cr_kept}
use Rattle.rrd_tool.proofs.lines.drop_cr.Goals as goal

pub returns-then-line-last-eq13 : goal.returns-then-line-last-eq13
returns-then-line-last-eq13 c =
    let long : length c.args.line.now ≡ c.in-Some.last + 1 = omega (arith, c.in-Some.ensures) in
    sym (cr_dropped c.args.line.now c.in-Some.last long c.if-line-last-eq13.true)

pub returns : goal.returns
returns c =
    let long : length c.args.line.now ≡ c.in-Some.last + 1 = omega (arith, c.in-Some.ensures) in
    let other : nat_eq (get_or c.args.line.now c.in-Some.last 0) 13 ≡ false = grind (arith, nat_tests, c.if-line-last-eq13.false) in
    sym (cr_kept c.args.line.now c.in-Some.last long other)
