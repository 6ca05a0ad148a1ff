use Rattle.rrd_file.proofs.Common.{◌/◌, ◌%◌, ◌^◌, arith, w128, to_z-of_z, signed_bytes, halves}
use Rattle.rrd_file.proofs.values.halves_of.Goals as goal

pub returns : goal.returns
unfolding signed_bytes
returns c =
    let bits = c.cast_unsigned-bits.result in
    cc (halves bits (bits / 2 ^ 64) (bits % 2 ^ 64) (omega arith) (omega arith), c.cast_unsigned-bits.ensures, to_z-of_z {w = w128} c.ranges.number)
