use Rattle.rrd_fixed.proofs.Common.{refl, arith, length-set, digit_put, few_digits, one_digit_more, common_steps}
use Rattle.rrd_fixed.proofs.puts.put_whole.Goals as goal

pub loop-left-init : goal.loop-left-init
loop-left-init c = let few = few_digits c.args.number c.ranges.number.fits in (omega arith, omega (arith, few, c.requires.room), refl, refl, refl)

pub overflow_sub-at : goal.overflow_sub-at
overflow_sub-at c = grind (arith, common_steps, one_digit_more)

pub loop-left-preserved : goal.loop-left-preserved
loop-left-preserved c = grind (arith, common_steps, one_digit_more, length-set, digit_put)
