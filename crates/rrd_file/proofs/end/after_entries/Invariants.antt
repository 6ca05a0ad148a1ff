use Rattle.rrd_file.proofs.Common.{◌≡◌, ◌+◌, ◌-◌, ◌^◌, ◌≤◌, after_entries}
use Rattle.rrd_file.proofs.end.after_entries.Given as goal

abbrev pub invariant-loop : goal.invariant-loop
invariant-loop l = record {
  follows : after_entries l.sources l.count (l.entries - l.counter) l.rest ≡ after_entries l.sources l.archives l.entries l.bytes;
  few : l.count ≤ 2 ^ 16 + l.counter;
}
