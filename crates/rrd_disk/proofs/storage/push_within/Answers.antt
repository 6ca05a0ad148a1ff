use Rattle.rrd_disk.proofs.Common.{List, refl, subst, sym, Span, AreMore, more_pushed}
use Rattle.rrd_disk.proofs.storage.push_within.Goals as goal

pub returns : goal.returns
returns c =
    subst (λ (xs : List Span). AreMore c.args.count c.args.span c.args.spans.now.items xs) (sym c.in_ok-push.ensures.items)
    (more_pushed c.args.count c.args.span.start c.min-end.result c.args.span c.args.spans.now.items refl c.min-end.ensures)
