use Rattle.rrd_file.proofs.Common.{◌≡◌, ◌+◌, length, arith, rules, to_z-of_z, FitsSigned, w128, before_back}
use Rattle.rrd_file.proofs.source.before_of.Goals as goal

pub returns-clause-spelled : goal.returns-clause-spelled
returns-clause-spelled c =
    let fits : FitsSigned w128 c.part_of-known.result.1 = search rules in
    let room : length c.part_of-known.result.2.now + 36 ≡ length c.args.bytes.now = omega (arith, c.raw_of-raw.ensures.room, c.part_of-known.ensures.room) in
    rw (to_z-of_z {w = w128} fits)
    (before_back c.args.bytes.now c.raw_of-raw.result.1.now c.part_of-known.result.2.now c.raw_of-raw.result.0 (record { known = c.part_of-known.result.0; value = c.part_of-known.result.1 }) c.requires c.raw_of-raw.ensures.spelled c.part_of-known.ensures.spelled room)
