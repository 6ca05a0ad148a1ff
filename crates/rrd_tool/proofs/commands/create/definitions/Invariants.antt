use Rattle.rrd_tool.proofs.Common.{map, HasRead}
use Rattle.rrd_tool.proofs.commands.create.definitions.Given as goal

abbrev pub invariant-loop-index : goal.invariant-loop-index
invariant-loop-index l = HasRead (map (λ w. w.now) l.words) l.index l.sources l.archives
