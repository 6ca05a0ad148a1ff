use Rattle.rrd_tool.proofs.Common.{◌≡◌, sym, nat_eq, false, arith, nat_tests, lost_byte, lost_long}
use Rattle.rrd_tool.proofs.lines.LineBuffer.push_behind_plain.Goals as goal

pub returns-then-not-is_plain : goal.returns-then-not-is_plain
returns-then-not-is_plain c unfinished h more =
    let k = rw c.requires.plain at h in
    let n : nat_eq c.args.byte 13 ≡ false = grind (arith, nat_tests, c.if-byte-eq13.false) in
    lost_byte c.args.self.now.bytes.items unfinished c.args.byte k.0 n (sym c.if-not-is_plain.ensures) more

pub returns-then-len-ge-MAX_LINE : goal.returns-then-len-ge-MAX_LINE
returns-then-len-ge-MAX_LINE c unfinished h more =
    let k = rw c.requires.plain at h in
    let n : nat_eq c.args.byte 13 ≡ false = grind (arith, nat_tests, c.if-byte-eq13.false) in
    lost_long c.args.self.now.bytes.items unfinished c.args.byte k.0 n (omega arith) more
