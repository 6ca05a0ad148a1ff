use Rattle.rrd_fixed.proofs.Common.{arith, ◌<◌, ◌≤◌, ◌^◌, length, take, ℕ, List, ◌≡◌, true, length-take-le, list_all, value_of, list_all_more, is_ascii_digit, below_power, value_before, value_below, value_more, common_steps}
use Rattle.rrd_fixed.proofs.number.read_front.Goals as goal

pub overflow_mul-value : goal.overflow_mul-value
overflow_mul-value c = grind (arith, common_steps, value_before c.args.bytes.now c.loop-at.at 18 c.loop-at.invariant.1)

pub overflow_add-value : goal.overflow_add-value
overflow_add-value c = grind (arith, common_steps, value_before c.args.bytes.now c.loop-at.at 18 c.loop-at.invariant.1)

pub loop-at-preserved : goal.loop-at-preserved
loop-at-preserved c = grind (arith, common_steps, value_more, list_all_more)

small : (xs : List ℕ) (i value : ℕ) → i ≤ length xs → length xs ≤ 19 → list_all is_ascii_digit (take i xs) ≡ true → value ≡ value_of (take i xs) → value < 10 ^ 19
small xs i value inside few digits e = rw e (below_power (length (take i xs)) 19 (value_of (take i xs)) (omega (arith, length-take-le i xs inside)) (value_below (take i xs) digits))

pub returns-then-not-is_ascii_digit-clause-small : goal.returns-then-not-is_ascii_digit-clause-small
returns-then-not-is_ascii_digit-clause-small c = small c.args.bytes.now c.loop-at.at c.loop-at.value c.loop-at.invariant.0 c.requires c.loop-at.invariant.1 c.loop-at.invariant.2

pub returns-clause-small : goal.returns-clause-small
returns-clause-small c = small c.args.bytes.now c.loop-at.at c.loop-at.value c.loop-at.invariant.0 c.requires c.loop-at.invariant.1 c.loop-at.invariant.2
