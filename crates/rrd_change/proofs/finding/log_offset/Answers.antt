use Rattle.rrd_change.proofs.Common.{◌≡◌, sym, ◌∙◌, ap, begins_with, log_mark, spelled_tail}
use Rattle.rrd_change.proofs.finding.log_offset.Goals as goal

pub returns-then-starts_with : goal.returns-then-starts_with
returns-then-starts_with c =
    let file = c.args.bytes.now in
    let tail : c.number_at-tail.result ≡ spelled_tail file = c.number_at-tail.ensures in
    (tail, ap (λ t. begins_with file (log_mark t)) (sym tail) ∙ ap (λ m. begins_with file m) (sym c.log_mark.ensures) ∙ sym c.starts_with.ensures.value ∙ c.if-starts_with.true)

pub returns-else-starts_with : goal.returns-else-starts_with
returns-else-starts_with c =
    let file = c.args.bytes.now in
    let tail : c.number_at-tail.result ≡ spelled_tail file = c.number_at-tail.ensures in
    ap (λ t. begins_with file (log_mark t)) (sym tail) ∙ ap (λ m. begins_with file m) (sym c.log_mark.ensures) ∙ sym c.starts_with.ensures.value ∙ c.if-starts_with.false
