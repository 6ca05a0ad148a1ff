use Rattle.rrd_tool.proofs.Common.{◌≡◌, ◌+◌, map, drop, sample_of, each_of, Sample, prepend}
use Rattle.rrd_tool.proofs.commands.update.samples.Given as goal

abbrev pub invariant-loop-index : goal.invariant-loop-index
invariant-loop-index l =
    each_of (sample_of l.now) Sample 1 (map (λ w. w.now) l.words)
    ≡ prepend l.samples (each_of (sample_of l.now) Sample (l.index + 1) (drop l.index (map (λ w. w.now) l.words)))
