use Rattle.rrd_fixed.proofs.Common.{ℕ, ◌≤◌, ◌^◌, decimal, arith, length, lit<, length-decimal-le, puts_byte, common_steps}
use Rattle.std.proofs.Common.{to_z-of_z}
use Rattle.rrd_fixed.proofs.puts.put_time.Goals as goal

short : (n : ℕ) → n ≤ 2 ^ 63 → length (decimal n) ≤ 19
short n small = length-decimal-le 19 n (lit< tt) (omega arith) (omega arith)

pub write_digits-at-requires : goal.write_digits-at-requires
write_digits-at-requires c = let few = short c.unsigned_abs.result c.unsigned_abs.ensures.bound in (omega (arith, few, c.requires.room), c.requires.inside)

pub returns-then-seconds-ge0-clause-short : goal.returns-then-seconds-ge0-clause-short
returns-then-seconds-ge0-clause-short c = let few = short c.unsigned_abs.result c.unsigned_abs.ensures.bound in omega (arith, few, c.write_digits-at.ensures.start)

pub overflow_sub-buffer : goal.overflow_sub-buffer
overflow_sub-buffer c = let few = short c.unsigned_abs.result c.unsigned_abs.ensures.bound in omega (arith, few, c.write_digits-at.ensures.start, c.requires.room)

pub overflow_sub-result : goal.overflow_sub-result
overflow_sub-result c = let few = short c.unsigned_abs.result c.unsigned_abs.ensures.bound in omega (arith, few, c.write_digits-at.ensures.start, c.requires.room)

pub returns-clause-text : goal.returns-clause-text
returns-clause-text c = grind (arith, common_steps, short, to_z-of_z, puts_byte)

pub returns-clause-short : goal.returns-clause-short
returns-clause-short c = let few = short c.unsigned_abs.result c.unsigned_abs.ensures.bound in omega (arith, few, c.write_digits-at.ensures.start)
