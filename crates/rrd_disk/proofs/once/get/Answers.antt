use Rattle.rrd_disk.proofs.Common.{◌≡◌, ◌+◌, ◌-◌, ◌≤◌, length, refl, arith, rules, take-put_mid, more_so_far, rests_trans}
use Rattle.rrd_disk.proofs.once.get.Goals as goal

pub loop-count-preserved : goal.loop-count-preserved
loop-count-preserved g c =
    let inv = c.loop-count.invariant in
    let rest = c.get_some.new.bytes in
    let more = c.in_ok-more.more in
    let few : more ≤ length rest = c.in_ok-more.ensures.bound.0 in
    let all : c.min-count.result ≡ more = omega (arith, few) in
    let from : c.in-Some.from ≡ c.args.at + c.loop-count.count = search rules in
    record {
      few = search rules;
      rests = search (rules, rests_trans);
      guard = search rules;
      got = λ s honest. rw all (more_so_far _ c.args.at c.loop-count.count more c.loop-count.bytes rest _ inv.few few
          (take-put_mid c.loop-count.count (length c.loop-count.bytes - c.loop-count.count) c.loop-count.bytes rest _ refl inv.few)
          (inv.got s (search rules)) (rw (from, inv.rests.held s) at (c.in_ok-more.ensures.ok s honest)));
    }
