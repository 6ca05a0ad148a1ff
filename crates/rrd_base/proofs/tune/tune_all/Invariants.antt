use Rattle.rrd_base.proofs.Common.{◌≡◌, ◌++◌, map, take, drop, raws_under}
use Rattle.rrd_spec.specs.Commands as commands
use Rattle.rrd_base.proofs.tune.tune_all.Given as goal

abbrev pub invariant-loop-number : goal.invariant-loop-number
invariant-loop-number l = record {
  sources_are : l.sources ≡ map (commands.tuned l.tuning) (take l.number l.fn.sources) ++ drop l.number l.fn.sources;
  raws_are : l.raws ≡ raws_under (take l.number l.fn.sources) (map (commands.tuned l.tuning) (take l.number l.fn.sources)) l.fn.raws;
}
