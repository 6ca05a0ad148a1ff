use Rattle.rrd_store.proofs.Common.{appends_nothing}
use Rattle.rrd_store.proofs.ending.write_if.Goals as goal

pub returns-in-None : goal.returns-in-None
returns-in-None g c = rw c.in-None.is (appends_nothing (g.W.Write.contents c.args.err.now))
