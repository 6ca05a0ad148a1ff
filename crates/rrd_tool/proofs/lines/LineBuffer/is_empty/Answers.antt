use Rattle.rrd_tool.proofs.Common.{sym, some_held}
use Rattle.rrd_tool.proofs.lines.LineBuffer.is_empty.Goals as goal

pub returns-in-Lost : goal.returns-in-Lost
returns-in-Lost c unfinished h = sym (some_held c.args.self.now.ending c.args.self.now.bytes.items unfinished c.in-Lost.is h)
