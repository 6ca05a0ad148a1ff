use Rattle.rrd_tool.proofs.commands.run.Goals as goal

pub returns-in-Create : goal.returns-in-Create
returns-in-Create g c = rw c.in-Create.is (c.run.ensures (g.W.Write.contents c.args.out.now))

pub returns-in-Update : goal.returns-in-Update
returns-in-Update g c = rw c.in-Update.is (c.run-in-Update.ensures (g.W.Write.contents c.args.out.now))

pub returns-in-Revert : goal.returns-in-Revert
returns-in-Revert g c = rw c.in-Revert.is (c.run-in-Revert.ensures (g.W.Write.contents c.args.out.now))

pub returns-in-First : goal.returns-in-First
returns-in-First g c = rw c.in-First.is c.run-in-First.ensures

pub returns-in-Last : goal.returns-in-Last
returns-in-Last g c = rw c.in-Last.is c.run-in-Last.ensures

pub returns-in-LastUpdate : goal.returns-in-LastUpdate
returns-in-LastUpdate g c = rw c.in-LastUpdate.is c.run-in-LastUpdate.ensures

pub returns-in-Info : goal.returns-in-Info
returns-in-Info g c = rw c.in-Info.is c.run-in-Info.ensures

pub returns-in-Tune : goal.returns-in-Tune
returns-in-Tune g c = rw c.in-Tune.is (c.run-in-Tune.ensures (g.W.Write.contents c.args.out.now))

pub returns-in-Resize : goal.returns-in-Resize
returns-in-Resize g c = rw c.in-Resize.is (c.run-in-Resize.ensures (g.W.Write.contents c.args.out.now))
