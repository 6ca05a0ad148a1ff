use Rattle.rrd_file.proofs.Common.{◌∙◌, ◌++◌, ◌*◌, ◌+◌, ◌^◌, arith, ap, sym, to_z-of_z, FitsSigned, rules, w128, signed_bytes, halves_back}
use Rattle.rrd_file.proofs.values.signed_of.Goals as goal

pub returns-clause-spelled : goal.returns-clause-spelled
returns-clause-spelled c =
    let fits : FitsSigned w128 c.cast_signed.result = search rules in
    let high = c.eight_of-high.result.0 in
    let low = c.eight_of-low.result.0 in
    halves_back c.args.bytes.now c.eight_of-high.result.1.now c.eight_of-low.result.1.now high low (c.from.result * 2 ^ 64 + c.from-2.result) c.cast_signed.result c.eight_of-high.ensures.spelled c.eight_of-low.ensures.spelled (omega arith) (omega (arith, c.from.ensures, c.from-2.ensures)) (omega (arith, c.from.ensures, c.from-2.ensures)) c.cast_signed.ensures
    ∙ ap (λ z. signed_bytes z ++ c.eight_of-low.result.1.now) (sym (to_z-of_z {w = w128} fits))
