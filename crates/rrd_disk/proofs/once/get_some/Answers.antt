use Rattle.rrd_disk.proofs.Common.{sym, got_some}
use Rattle.rrd_disk.proofs.once.get_some.Goals as goal

pub returns-in_default-2-clause-ok : goal.returns-in_default-2-clause-ok
returns-in_default-2-clause-ok g c = got_some c.read_at.result (g.D.Disk.events c.args.disk.now) (g.D.Disk.events c.loop.disk) (g.D.Disk.events c.read_at.new.self) c.args.at c.loop.bytes c.read_at.new.bytes c.loop.invariant (sym c.read_at.auto.bytes) c.read_at.ensures.bound c.read_at.ensures.ok
