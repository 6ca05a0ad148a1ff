use Rattle.std.proofs.Common.{refl, to_z-of_z}
use Rattle.rrd_fixed.proofs.PutLemmas.{signed_utf8}
use Rattle.rrd_fixed.proofs.text.signed_string.Goals as goal

pub unreachable-requires : goal.unreachable-requires
unreachable-requires c =
    let put = rw (to_z-of_z c.ranges.millionths) at c.put_signed-start.ensures.text in
    c.in_default.ensures.cases.0 (signed_utf8 c.args.millionths _ c.put_signed-start.new.buffer c.put_signed-start.result c.ranges.millionths refl put)
