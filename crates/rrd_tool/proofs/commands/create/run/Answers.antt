use Rattle.rrd_tool.proofs.Common.{Some, ap, refl, option_map, Refused, appends_nothing}
use Rattle.rrd_tool.proofs.commands.create.run.Goals as goal

pub returns-in-Ok : goal.returns-in-Ok
returns-in-Ok c c0 = (ap (option_map Refused) c.in-Ok.ensures.verdict, ap Some c.in-Ok.ensures.ok, refl, appends_nothing c0)
