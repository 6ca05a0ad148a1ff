use Rattle.rrd_file.proofs.Common.{◌≡◌, ◌<◌, ◌^◌, ◌+◌, length, pos, to_z, rules, arith, w128, ints, archive_back, archive_none, archive_some}
use Rattle.rrd_file.proofs.archive.archive_of.Goals as goal

pub returns-in_default-clause-none : goal.returns-in_default-clause-none
returns-in_default-clause-none c = λ r. archive_none c.args.bytes.now c.split_at.result.0.now c.split_at.ensures.front (c.function_of.ensures.none (search rules))

pub returns-clause-some : goal.returns-clause-some
returns-clause-some c =
    let x = c.four_of-xff.result.0 in
    let small : x < 2 ^ 32 = c.four_of-xff.ensures.small in
    let number : to_z w128 x ≡ pos x = omega (arith, ints, small) in
    let room : length c.four_of-rows.result.1.now + 12 ≡ length c.split_at.result.1.now = omega (arith, c.four_of-steps.ensures.room, c.four_of-xff.ensures.room, c.four_of-rows.ensures.room) in
    archive_some c.args.bytes.now c.in-Some.function c.four_of-steps.result.0 x c.four_of-rows.result.0 (to_z w128 x) number c.four_of-steps.ensures.small small c.four_of-rows.ensures.small
    (archive_back c.args.bytes.now c.split_at.result.0.now c.split_at.result.1.now c.four_of-steps.result.1.now c.four_of-xff.result.1.now c.four_of-rows.result.1.now c.in-Some.function c.four_of-steps.result.0 x c.four_of-rows.result.0
    c.requires c.split_at.ensures.front c.split_at.ensures.back (search rules) c.four_of-steps.ensures.spelled c.four_of-xff.ensures.spelled c.four_of-rows.ensures.spelled room)
