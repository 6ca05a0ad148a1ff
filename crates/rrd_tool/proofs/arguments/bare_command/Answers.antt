use Rattle.rrd_tool.proofs.Common.{rules}
use Rattle.rrd_tool.proofs.arguments.bare_command.Goals as goal

pub returns : goal.returns
returns c = (search rules, search rules)
