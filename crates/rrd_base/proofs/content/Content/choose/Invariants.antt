use Rattle.rrd_base.proofs.Common.{◌≡◌, take, searched, definitions}
use Rattle.rrd_base.proofs.content.Content.choose.Given as goal

abbrev pub invariant-loop-archive : goal.invariant-loop-archive
invariant-loop-archive l = l.search ≡ searched l.self.step l.self.last l.fn.request (definitions (take l.archive l.self.archives))
