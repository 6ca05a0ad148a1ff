use Rattle.rrd_tool.proofs.Common.{line_turns, command_turn, unless_short, performs_as}
use Rattle.rrd_tool.proofs.batch.perform.Goals as goal

pub returns-in-Ok-Some-clause-moved : goal.returns-in-Ok-Some-clause-moved
returns-in-Ok-Some-clause-moved g c line e s0 stands =
    let given = rw (c.in-Ok-Some.is, c.in-Ok-Some.field-0-is) at (c.request.ensures line e) in
    let command = c.in-Ok-Some.command in
    let moved = c.run_command.ensures.moved s0 stands in
    (moved.0, moved.1, performs_as (line_turns c.args.context.now s0 line) (λ is_short. unless_short s0 (command_turn s0 command) is_short) moved.0 (g.W.Write.contents c.args.out.now) (g.W.Write.contents c.run_command.new.out) c.run_command.result (given s0) moved.2)
