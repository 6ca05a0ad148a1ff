use Rattle.rrd_fixed.proofs.Common.{◌∙◌, ◌+◌, ℤ, Bool, Some, None, slice_index, to_z, sym, arith, to_z_pos, take_all, take_rest, Number, none_few, other_few, plain_few, pointed_few, common_steps}
use Rattle.rrd_fixed.proofs.number.read_few.Goals as goal

abbrev signed : ℤ → Bool → Number
signed millionths point = record { millionths = millionths; point = point }

pub returns-then-at-eq0-clause-value : goal.returns-then-at-eq0-clause-value
returns-then-at-eq0-clause-value c = grind (arith, common_steps, none_few)

pub returns-then-at-bytes-clause-value : goal.returns-then-at-bytes-clause-value
returns-then-at-bytes-clause-value c = grind (arith, common_steps, take_all, to_z, to_z_pos, plain_few)

pub returns-then-bytes-at-ne46-clause-value : goal.returns-then-bytes-at-ne46-clause-value
returns-then-bytes-at-ne46-clause-value c = grind (arith, common_steps, slice_index, other_few)

pub returns-in_err-fraction-clause-value : goal.returns-in_err-fraction-clause-value
returns-in_err-fraction-clause-value c =
    let bytes = c.args.bytes.now in
    let at = c.read_front-at.result.0 in
    let none = rw (take_rest bytes (at + 1)) at c.in_err-fraction.ensures.value in
    c.from_residual.ensures
    ∙ sym (pointed_few bytes at None (omega (arith, c.if-at-eq0.false)) (omega arith) c.requires c.read_front-at.ensures.digits c.if-bytes-at-ne46.false none)

pub returns-clause-value : goal.returns-clause-value
returns-clause-value c =
    let bytes = c.args.bytes.now in
    let at = c.read_front-at.result.0 in
    let fraction = c.in_ok-fraction.fraction in
    let some = rw (take_rest bytes (at + 1)) at c.in_ok-fraction.ensures.value in
    let read = pointed_few bytes at (Some fraction) (omega (arith, c.if-at-eq0.false)) (omega arith) c.requires c.read_front-at.ensures.digits c.if-bytes-at-ne46.false some in
    grind (arith, common_steps)
