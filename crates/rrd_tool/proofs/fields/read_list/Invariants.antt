use Rattle.rrd_tool.proofs.Common.{◌≡◌, ◌+◌, [], length, option_map_or, each_in, pieces}
use Rattle.rrd_tool.proofs.Each.{joined}
use Rattle.rrd_tool.proofs.fields.read_list.Given as goal

abbrev pub invariant-loop-left : goal.invariant-loop-left
invariant-loop-left g l =
    each_in g.T.Field.meaning (pieces l.text) ≡ joined l.values (each_in g.T.Field.meaning (option_map_or (λ rest. pieces rest.now) l.left []))

abbrev pub decreases-loop-left : goal.decreases-loop-left
decreases-loop-left g l = option_map_or (λ rest. length rest.now + 1) l.left 0
