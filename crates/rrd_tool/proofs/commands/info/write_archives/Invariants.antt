use Rattle.rrd_tool.proofs.Common.{Appends, texts_below, archive_at}
use Rattle.rrd_tool.proofs.commands.info.write_archives.Given as goal

abbrev pub invariant-loop-archive : goal.invariant-loop-archive
invariant-loop-archive g l = Appends (g.W.Write.contents l.fn.out) (g.W.Write.contents l.out) (texts_below (archive_at l.database.content) l.archive)
