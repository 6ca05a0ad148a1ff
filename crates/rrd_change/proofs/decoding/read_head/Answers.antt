use Rattle.rrd_change.proofs.Common.{rules, arith, sym, ◌∙◌, ap, begins_with, found, read_none, tried}
use Rattle.rrd_change.proofs.Heads.{seen}
use Rattle.rrd_change.proofs.decoding.read_head.Goals as goal

pub returns-then-bytes-lt-HEAD_SIZE : goal.returns-then-bytes-lt-HEAD_SIZE
returns-then-bytes-lt-HEAD_SIZE c = read_none c.args.tail c.args.at c.args.bytes.now (λ x h. let s = seen c.args.tail c.args.at c.args.bytes.now x h in omega (arith, s.enough, c.if-bytes-lt-HEAD_SIZE.true))

pub returns-then-bytes-length : goal.returns-then-bytes-length
returns-then-bytes-length c = read_none c.args.tail c.args.at c.args.bytes.now (λ x h.
    let s = seen c.args.tail c.args.at c.args.bytes.now x h in
    let count = c.number_at-length.ensures ∙ s.count in
    let size = c.number_at-size.ensures ∙ s.size in
    let right = s.right in
    (search (rules)))

pub returns-then-not-is_right : goal.returns-then-not-is_right
returns-then-not-is_right c = read_none c.args.tail c.args.at c.args.bytes.now (λ x h.
    let s = seen c.args.tail c.args.at c.args.bytes.now x h in
    let t = tried c.args.tail c.args.at c.number_at-pieces.result c.number_at-size.result c.number_at-length.result c.args.bytes.now x s
    c.number_at-length.ensures c.number_at-pieces.ensures c.number_at-size.ensures in
    elim c.then-not-is_right.branch [
      | goal.then-not-is_right-via-then-not-is_right w ↦
          let begins = c.starts_with-is_right.ensures.value ∙ ap (λ m. begins_with c.args.bytes.now m) c.head.ensures ∙ t.begins in
          cc (begins, w.if-not-is_right.true)
      | goal.then-not-is_right-via-else-not-is_right+then-not-are_pieces w ↦ w.are_pieces.ensures.no w.if-not-are_pieces.true t.has
    ])

pub returns : goal.returns
returns c =
    let begins = ap (λ m. begins_with c.args.bytes.now m) (sym c.head.ensures) ∙ sym c.starts_with-is_right.ensures.value ∙ c.if-not-is_right.false in
    found c.args.tail c.args.at c.number_at-pieces.result c.number_at-size.result c.number_at-length.result c.args.bytes.now
    c.ranges.tail.fits c.number_at-length.type_inv c.if-size-lt16.false c.if-tail-size.false (omega (arith, c.if-bytes-lt-HEAD_SIZE.false, c.if-bytes-length.false))
    (record { begins = begins; has = c.are_pieces.ensures.yes (search rules) })
