use Rattle.rrd_disk.proofs.Common.{sync_did}
use Rattle.rrd_disk.proofs.once.sync.Goals as goal

pub returns-clause-did : goal.returns-clause-did
returns-clause-did g c = sync_did (g.D.Disk.events c.args.disk.now) c.sync.result (g.D.Disk.events c.sync.new.self) c.sync.ensures.ok c.sync.ensures.err
