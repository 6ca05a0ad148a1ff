use Rattle.rrd_base.proofs.Common.{drop, length, take, AllByRecursion, limits_of, IsSavedSource, RiseLeft}
use Rattle.rrd_base.proofs.rebuild.entry_checks.are_named.Given as goal

abbrev pub invariant-loop-old : goal.invariant-loop-old
invariant-loop-old l = record {
  rise : RiseLeft 0 (length l.validator.outline.sources) l.lowest l.olds (drop l.old-index l.olds);
  each : AllByRecursion (IsSavedSource (limits_of l.validator.version)) (take l.old-index l.olds);
}
