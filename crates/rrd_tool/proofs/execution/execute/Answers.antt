use Rattle.rrd_tool.proofs.Common.{database_left, fault_left, has_changed, effect, runs_on, prints_some}
use Rattle.rrd_tool.proofs.execution.execute.Goals as goal

pub returns-in-None-clause-kept : goal.returns-in-None-clause-kept
returns-in-None-clause-kept g c = rw c.in-None.is (c.run_without.ensures (g.W.Write.contents c.args.out.now))

pub returns-in-None-clause-run : goal.returns-in-None-clause-run
returns-in-None-clause-run g c state s =
    let outcome = c.run_without.result in
    runs_on c.created_is_valid.ensures c.database_begins.ensures c.action_goes_on.ensures (effect c.args.command) c.args.database (database_left outcome) state _ _ (has_changed outcome) (fault_left outcome) s (rw c.in-None.is (c.run_without.ensures (g.W.Write.contents c.args.out.now)))

pub returns-in-Some-clause-run : goal.returns-in-Some-clause-run
returns-in-Some-clause-run g c state s =
    let outcome = c.run.result in
    runs_on c.created_is_valid.ensures c.database_begins.ensures c.action_goes_on.ensures (effect c.args.command) c.args.database (database_left outcome) state _ _ (has_changed outcome) (fault_left outcome) s (rw c.in-Some.is c.run.ensures)

pub returns-in-None-clause-says : goal.returns-in-None-clause-says
returns-in-None-clause-says g c =
    let out = g.W.Write.contents c.args.out.now in
    prints_some c.args.database c.args.command out out c.run_without.result (rw c.in-None.is (c.run_without.ensures out))

pub returns-in-Some-clause-says : goal.returns-in-Some-clause-says
returns-in-Some-clause-says g c =
    prints_some c.args.database c.args.command (g.W.Write.contents c.args.out.now) (g.W.Write.contents c.run.new.out) c.run.result (rw c.in-Some.is c.run.ensures)
