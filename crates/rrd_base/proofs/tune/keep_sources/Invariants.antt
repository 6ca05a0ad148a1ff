use Rattle.std.proofs.Common.{◌≡◌, take}
use Rattle.rrd_spec.specs.Journal.Entries as entries
use Rattle.rrd_base.proofs.tune.keep_sources.Given as goal

abbrev pub invariant-loop-number : goal.invariant-loop-number
invariant-loop-number l = l.kept.items ≡ entries.saved_sources l.tuning 0 (take l.number l.sources) (take l.number l.raws)
