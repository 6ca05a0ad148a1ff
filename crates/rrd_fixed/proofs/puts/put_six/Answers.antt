use Rattle.rrd_fixed.proofs.Common.{◌≤◌, ◌-◌, length, decimal, codes, arith, lit<, length-decimal-le, put_mid, same_len_mid, Puts, puts_part, puts_six, common_steps}
use Rattle.rrd_fixed.proofs.puts.put_six.Goals as goal

pub write_digits-requires : goal.write_digits-requires
write_digits-requires c = grind (arith, common_steps, length-decimal-le 6 c.args.number, same_len_mid (c.args.end - 6) (c.args.end - (c.args.end - 6)) c.args.buffer.now c.copy_from_slice.new.self c.copy_from_slice.ensures.len)

pub returns : goal.returns
returns c =
    let end = c.args.end in
    let old = c.args.buffer.now in
    let few : length (decimal c.args.number) ≤ 6 = length-decimal-le 6 c.args.number (lit< tt) c.requires.small (omega arith) in
    let zeros : Puts old (put_mid (end - 6) (end - (end - 6)) old (codes "000000")) end (codes "000000") (end - 6) =
    puts_part old (codes "000000") end (end - 6) (omega arith) c.requires.inside (omega (arith, c.requires.room)) in
    let mid : Puts old (put_mid (end - 6) (end - (end - 6)) old c.copy_from_slice.new.self) end (codes "000000") (end - 6) = rw c.copy_from_slice.ensures.after zeros in
    puts_six old (put_mid (end - 6) (end - (end - 6)) old c.copy_from_slice.new.self) c.write_digits.new.buf end (end - 6) c.write_digits.result c.args.number mid
    (record { begins = c.write_digits.ensures.start; bytes = c.write_digits.ensures.written }) few c.write_digits.ensures.before
