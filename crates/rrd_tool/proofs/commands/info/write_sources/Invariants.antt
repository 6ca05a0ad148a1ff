use Rattle.rrd_tool.proofs.Common.{Appends, texts_below, source_at}
use Rattle.rrd_tool.proofs.commands.info.write_sources.Given as goal

abbrev pub invariant-loop-number : goal.invariant-loop-number
invariant-loop-number g l = Appends (g.W.Write.contents l.fn.out) (g.W.Write.contents l.out) (texts_below (source_at l.database.content) l.number)
