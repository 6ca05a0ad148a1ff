use Rattle.rrd_tool.proofs.Common.{plain_utf8}
use Rattle.rrd_tool.proofs.lines.push_word.Goals as goal

pub unreachable-requires : goal.unreachable-requires
unreachable-requires c = c.in_default.ensures.cases.0 (plain_utf8 c.args.word.now c.requires)
