use Rattle.rrd_file.proofs.Common.{◌≡◌, ◌-◌, after_all_saved}
use Rattle.rrd_file.proofs.end.after_all_saved.Given as goal

abbrev pub invariant-loop : goal.invariant-loop
invariant-loop l = after_all_saved l.sources (l.archives - l.counter) l.rest ≡ after_all_saved l.sources l.archives l.bytes
