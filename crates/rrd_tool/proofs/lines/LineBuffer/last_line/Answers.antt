use Rattle.rrd_tool.proofs.Common.{refl, cut_none}
use Rattle.rrd_tool.proofs.lines.LineBuffer.last_line.Goals as goal

pub returns-in-Lost : goal.returns-in-Lost
returns-in-Lost c = record {
  text = λ unfinished h. rw (cut_none c.args.self.now.ending c.args.self.now.bytes.items unfinished c.in-Lost.is h) refl;
  plain = tt;
}
