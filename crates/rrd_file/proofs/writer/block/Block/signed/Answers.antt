use Rattle.rrd_file.proofs.Common.{◌∙◌, ℤ, ap, append_assoc, w128, to_z-of_z, eight_bytes, signed_bytes}
use Rattle.rrd_file.proofs.writer.block.Block.signed.Goals as goal

pub returns-clause-bytes : goal.returns-clause-bytes
returns-clause-bytes c =
    let halves = c.halves_of.result in
    cc (c.halves.ensures.bytes, append_assoc c.args.self.now (eight_bytes halves.high) (eight_bytes halves.low), c.halves_of.ensures ∙ ap (λ (z : ℤ). signed_bytes z) (to_z-of_z {w = w128} c.ranges.number))
