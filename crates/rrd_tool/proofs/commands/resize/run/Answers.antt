use Rattle.rrd_tool.proofs.Common.{rules, appends_nothing}
use Rattle.rrd_tool.proofs.commands.resize.run.Goals as goal

pub returns : goal.returns
returns c c0 = search (rules, appends_nothing)
