use Rattle.rrd_tool.proofs.Common.{◌≡◌, ◌∙◌, ◌++◌, [], take, sym, ap, false, true, inl, inr, arith, is_empty, last_part, no_lines, turn, Consumes-nil, feed_fails, feed_goes, last_fails, last_goes, none_left, ran_none, appends_nothing, at_ok, part_append}
use Rattle.rrd_tool.proofs.batch.run_lines.Goals as goal

pub returns-then-is_empty-clause-run : goal.returns-then-is_empty-clause-run
returns-then-is_empty-clause-run g c h0 s most tallies =
    let inv = c.reads.invariant.0 h0 s most tallies in
    let seen = inv.0 in
    let more = take c.in-Ok-read_some.count c.read_some.new.buffer in
    let none : more ≡ [] = ap (λ n. take n c.read_some.new.buffer) c.if-count-eq0.true in
    let nothing : is_empty (last_part [] seen) ≡ true = sym (c.is_empty.ensures (last_part [] seen) inv.7) ∙ c.if-is_empty.true in
    let left = none_left (turn c.args.context.now) h0 inv.2 inv.2 no_lines inv.4 inv.4
    (g.R.Read.remaining c.args.reader.now) (g.R.Read.remaining c.reads.reader) (g.R.Read.remaining c.read_some.new.reader)
    (g.W.Write.contents c.args.out.now) (g.W.Write.contents c.reads.out) (g.W.Write.contents c.reads.out)
    seen more inv.1 c.in-Ok-read_some.ensures.ok inv.6 none nothing in
    (seen, left.0, inv.2, inv.3, inv.4, inv.5, (c.in-Ok-read_some.ensures.end c.if-count-eq0.true (omega arith), left.1))

pub returns-then-is_err-clause-run : goal.returns-then-is_err-clause-run
returns-then-is_err-clause-run g c h0 s most tallies =
    let inv = c.reads.invariant.0 h0 s most tallies in
    let seen = inv.0 in
    let more = take c.in-Ok-read_some.count c.read_some.new.buffer in
    let none : more ≡ [] = ap (λ n. take n c.read_some.new.buffer) c.if-count-eq0.true in
    let some : is_empty (last_part [] seen) ≡ false = sym (c.is_empty.ensures (last_part [] seen) inv.7) ∙ c.if-is_empty.false in
    let told = c.answer.ensures.told (last_part [] seen) (c.last_line.ensures.text (last_part [] seen) inv.7) inv.2 inv.3 most inv.4 inv.5 in
    let failed = last_fails (turn c.args.context.now) h0 inv.2 told.0 no_lines inv.4 told.2
    (g.R.Read.remaining c.args.reader.now) (g.R.Read.remaining c.reads.reader) (g.R.Read.remaining c.read_some.new.reader)
    (g.W.Write.contents c.args.out.now) (g.W.Write.contents c.reads.out) (g.W.Write.contents c.answer.new.out)
    seen more inv.1 c.in-Ok-read_some.ensures.ok inv.6 none some c.answer.result (sym c.if-is_err.ensures.value) told.4 in
    (seen, failed.0, told.0, told.1, told.2, told.3, inr (c.in-Ok-read_some.ensures.end c.if-count-eq0.true (omega arith), failed.1))

pub returns-then-count-eq0-clause-run : goal.returns-then-count-eq0-clause-run
returns-then-count-eq0-clause-run g c h0 s most tallies =
    let inv = c.reads.invariant.0 h0 s most tallies in
    let seen = inv.0 in
    let more = take c.in-Ok-read_some.count c.read_some.new.buffer in
    let none : more ≡ [] = ap (λ n. take n c.read_some.new.buffer) c.if-count-eq0.true in
    let some : is_empty (last_part [] seen) ≡ false = sym (c.is_empty.ensures (last_part [] seen) inv.7) ∙ c.if-is_empty.false in
    let told = c.answer.ensures.told (last_part [] seen) (c.last_line.ensures.text (last_part [] seen) inv.7) inv.2 inv.3 most inv.4 inv.5 in
    let left = last_goes (turn c.args.context.now) h0 inv.2 told.0 no_lines inv.4 told.2
    (g.R.Read.remaining c.args.reader.now) (g.R.Read.remaining c.reads.reader) (g.R.Read.remaining c.read_some.new.reader)
    (g.W.Write.contents c.args.out.now) (g.W.Write.contents c.reads.out) (g.W.Write.contents c.answer.new.out)
    seen more inv.1 c.in-Ok-read_some.ensures.ok inv.6 none some c.answer.result (sym c.if-is_err.ensures.value) told.4 in
    (seen, left.0, told.0, told.1, told.2, told.3, (c.in-Ok-read_some.ensures.end c.if-count-eq0.true (omega arith), left.1))

pub returns-then-is_err-2-clause-run : goal.returns-then-is_err-2-clause-run
returns-then-is_err-2-clause-run g c h0 s most tallies =
    let inv = c.reads.invariant.0 h0 s most tallies in
    let seen = inv.0 in
    let more = take c.in-Ok-read_some.count c.read_some.new.buffer in
    let told = (c.feed.ensures.told (last_part [] seen) inv.7).0 inv.2 inv.3 most inv.4 inv.5 in
    let failed = feed_fails (turn c.args.context.now) h0 inv.2 told.0 no_lines inv.4 told.2
    (g.R.Read.remaining c.args.reader.now) (g.R.Read.remaining c.reads.reader) (g.R.Read.remaining c.read_some.new.reader)
    (g.W.Write.contents c.args.out.now) (g.W.Write.contents c.reads.out) (g.W.Write.contents c.feed.new.out)
    seen more inv.1 c.in-Ok-read_some.ensures.ok inv.6 c.feed.result (sym c.if-is_err-2.ensures.value) told.4 in
    (seen ++ more, failed.0, told.0, told.1, told.2, told.3, inl failed.1)

pub reads-preserved : goal.reads-preserved
reads-preserved g c = (
  λ h0 s most tallies.
      let inv = c.reads.invariant.0 h0 s most tallies in
      let seen = inv.0 in
      let more = take c.in-Ok-read_some.count c.read_some.new.buffer in
      let fed = c.feed.ensures.told (last_part [] seen) inv.7 in
      let told = fed.0 inv.2 inv.3 most inv.4 inv.5 in
      let on = feed_goes (turn c.args.context.now) h0 inv.2 told.0 no_lines inv.4 told.2
      (g.R.Read.remaining c.args.reader.now) (g.R.Read.remaining c.reads.reader) (g.R.Read.remaining c.read_some.new.reader)
      (g.W.Write.contents c.args.out.now) (g.W.Write.contents c.reads.out) (g.W.Write.contents c.feed.new.out)
      seen more inv.1 c.in-Ok-read_some.ensures.ok inv.6 c.feed.result (sym c.if-is_err-2.ensures.value) told.4 in
      (seen ++ more, on.0, told.0, told.1, told.2, told.3, on.1, rw (part_append [] seen more) (at_ok c.feed.result (sym c.if-is_err-2.ensures.value) fed.1)),
  let bound = c.in-Ok-read_some.ensures.bound in
      omega (arith, c.feed.ensures.count, bound.0, bound.1, c.reads.invariant.1),
  λ start was. c.feed.ensures.changed start (c.reads.invariant.2 start was),
)

pub reads-init : goal.reads-init
reads-init g c =
    let out = g.W.Write.contents c.args.out.now in (
      λ h0 s most tallies.
          ([], Consumes-nil (g.R.Read.remaining c.args.reader.now), h0, s, no_lines, tallies, ran_none (turn c.args.context.now) h0 no_lines out out (appends_nothing out), c.in-Ok.ensures),
      let none = c.requires in omega (arith, none),
      λ start was. was,
    )
