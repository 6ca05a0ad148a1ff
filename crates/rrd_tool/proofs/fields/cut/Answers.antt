use Rattle.rrd_tool.proofs.Common.{cut_is}
use Rattle.rrd_tool.proofs.fields.cut.Goals as goal

pub returns : goal.returns
returns c = cut_is c.args.text.now c.split_once.result c.split_once.ensures.cases
