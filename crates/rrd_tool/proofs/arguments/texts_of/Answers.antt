use Rattle.rrd_tool.proofs.Common.{◌∙◌, found_of, raw_values-rows}
use Rattle.rrd_tool.proofs.arguments.texts_of.Goals as goal

pub returns : goal.returns
returns c = c.get_raw.ensures ∙ raw_values-rows (found_of c.args.matches.now) c.args.id.now
