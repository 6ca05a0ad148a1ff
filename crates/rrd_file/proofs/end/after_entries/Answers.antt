use Rattle.rrd_file.proofs.Common.{◌≡◌, ◌∙◌, ◌+◌, ◌-◌, ◌<◌, ap, sym, length, arith, nat_tests, after_entries, after_tag, tag_said, entries_bad, entries_done, entries_more, entries_short}
use Rattle.rrd_file.proofs.end.after_entries.Goals as goal

pub returns-then-is_empty : goal.returns-then-is_empty
returns-then-is_empty c =
    let none : length c.loop.rest.now ≡ 0 = grind (arith, nat_tests) in
    sym (entries_short c.args.sources c.loop.count (c.args.entries - c.loop.counter) c.loop.rest.now none) ∙ c.loop.invariant.follows

pub returns-in_default : goal.returns-in_default
returns-in_default c =
    let some : 0 < length c.loop.rest.now = grind (arith, nat_tests) in
    sym (entries_bad c.args.sources c.loop.count c.args.entries c.loop.counter c.loop.rest.now c.loop-test.true some (c.tag_of.ensures.none c.in_default.is)) ∙ c.loop.invariant.follows

pub loop-preserved : goal.loop-preserved
loop-preserved c =
    let n = c.args.sources in
    let tag = tag_said c.in-Some.tag in
    let some : 0 < length c.loop.rest.now = grind (arith, nat_tests) in
    let rest = c.after_tag-rest.ensures ∙ ap (after_tag n c.loop.count tag) c.after.ensures in
    record {
      follows = (λ i. after_entries n (c.archives_before-count.ensures.number i) (c.args.entries - (c.loop.counter + 1)) (rest i))
          ∙ entries_more n c.loop.count c.args.entries c.loop.counter tag c.loop.rest.now c.loop-test.true some c.in-Some.ensures.some ∙ c.loop.invariant.follows;
      few = omega (arith, c.archives_before-count.ensures.small, c.loop.invariant.few);
    }

pub returns : goal.returns
returns c = sym (entries_done c.args.sources c.loop.count c.args.entries c.loop.counter c.loop.rest.now c.loop-test.false) ∙ c.loop.invariant.follows
