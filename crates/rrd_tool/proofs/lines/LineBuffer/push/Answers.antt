use Rattle.rrd_tool.proofs.Common.{lost_cr}
use Rattle.rrd_tool.proofs.lines.LineBuffer.push.Goals as goal

pub returns-in-Cr : goal.returns-in-Cr
returns-in-Cr c unfinished h more =
    let k = rw c.in-Cr.is at h in
    lost_cr c.args.self.now.bytes.items unfinished c.args.byte k.0 more
