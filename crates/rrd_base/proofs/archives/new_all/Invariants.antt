use Rattle.rrd_base.proofs.Common.{◌≡◌, map, take, new_archive}
use Rattle.rrd_base.proofs.archives.new_all.Given as goal

abbrev pub invariant-loop-def : goal.invariant-loop-def
invariant-loop-def l = l.archives ≡ map (new_archive l.sources) (take l.def-index l.defs)
