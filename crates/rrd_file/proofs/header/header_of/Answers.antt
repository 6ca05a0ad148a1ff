use Rattle.rrd_file.proofs.Common.{rules, header_back}
use Rattle.rrd_file.proofs.header.header_of.Goals as goal

pub returns-clause-spelled : goal.returns-clause-spelled
returns-clause-spelled c =
    header_back c.args.version c.args.bytes.now c.four_of-step.result.1.now c.eight_of-last.result.1.now c.count_of-depth.result.1.now c.two_of-sources.result.1.now c.two_of-archives.result.1.now c.count_of-entries.result.1.now c.four_of-step.result.0 c.eight_of-last.result.0 c.count_of-depth.result.0 c.two_of-sources.result.0 c.two_of-archives.result.0 c.count_of-entries.result.0 c.requires c.four_of-step.ensures.spelled c.eight_of-last.ensures.spelled c.count_of-depth.ensures.spelled c.two_of-sources.ensures.spelled c.two_of-archives.ensures.spelled c.count_of-entries.ensures.spelled (search rules)
