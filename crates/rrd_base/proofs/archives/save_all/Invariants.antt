use Rattle.rrd_base.proofs.Common.{◌≡◌, take, map, saved}
use Rattle.rrd_base.proofs.archives.save_all.Given as goal

abbrev pub invariant-loop-rra : goal.invariant-loop-rra
invariant-loop-rra l = l.all.items ≡ map (saved l.step l.from l.to) (take l.rra-index l.archives)
