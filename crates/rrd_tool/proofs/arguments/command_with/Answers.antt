use Rattle.rrd_tool.proofs.Common.{IfOk-weaker, nested}
use Rattle.rrd_tool.proofs.arguments.command_with.Goals as goal

pub returns : goal.returns
returns c s h = IfOk-weaker c.subcommand.result _ _ (λ r a. (nested _ _ r _ _ a c.bare_command.ensures h).0) c.subcommand.ensures
