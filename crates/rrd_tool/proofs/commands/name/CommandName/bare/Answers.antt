use Rattle.rrd_tool.proofs.Common.{◌∙◌, ap, new_app}
use Rattle.rrd_tool.proofs.commands.name.CommandName.bare.Goals as goal

pub returns : goal.returns
returns c = (c.new.ensures.app ∙ ap new_app c.word-word.ensures.word, c.new.ensures.local)
