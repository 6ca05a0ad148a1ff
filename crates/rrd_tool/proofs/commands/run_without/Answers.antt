use Rattle.rrd_tool.proofs.commands.run_without.Goals as goal

pub returns-in-Create : goal.returns-in-Create
returns-in-Create c c0 = rw c.in-Create.is (c.run.ensures c0)
