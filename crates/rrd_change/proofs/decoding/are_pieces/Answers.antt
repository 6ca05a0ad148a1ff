use Rattle.rrd_change.proofs.Common.{◌≡◌, ◌-◌, ◌+◌, ◌≤◌, ◌<◌, ℕ, length, drop, arith, subst, eqb-false, length-drop, HasPieces, left_head, next_piece, none_from, piece_before, common_steps}
use Rattle.rrd_change.proofs.decoding.are_pieces.Goals as goal

pub returns-then-bytes-at-lt-PIECE_HEAD-clause-no : goal.returns-then-bytes-at-lt-PIECE_HEAD-clause-no
returns-then-bytes-at-lt-PIECE_HEAD-clause-no c e h = grind (arith, common_steps, left_head)

pub returns-then-bytes-at-clause-no : goal.returns-then-bytes-at-clause-no
returns-then-bytes-at-clause-no c e h = grind (arith, common_steps, next_piece c.args.bytes.now c.loop.at c.args.count c.loop.counter c.args.end c.number_at-start.result c.number_at-size.result c.loop-test.true c.number_at-start.ensures c.number_at-size.ensures c.number_at-size.type_inv (c.loop.invariant.no h))

pub loop-preserved : goal.loop-preserved
loop-preserved c =
    let bytes = c.args.bytes.now in
    let count = c.args.count in
    let end = c.args.end in
    let at = c.loop.at in
    let i = c.loop.counter in
    let start = c.number_at-start.result in
    let n = c.number_at-size.result in
    let low : i < count = c.loop-test.true in
    let within : at + (16 + n) ≤ length bytes = omega (arith, c.if-bytes-at-lt-PIECE_HEAD.false, c.if-bytes-at.false, c.loop.invariant.few) in
    let below : start + n ≤ end = omega (arith, c.if-end-size.false, c.if-end-size-2.false) in
    record {
      few = within;
      yes = λ h. c.loop.invariant.yes (piece_before bytes at count i end start n low c.number_at-start.ensures c.number_at-size.ensures (λ k. (c.type_inv.bytes k).fits) within below h);
      no = λ h. (next_piece bytes at count i end start n low c.number_at-start.ensures c.number_at-size.ensures c.number_at-size.type_inv (c.loop.invariant.no h)).rest;
    }

pub returns-clause-no : goal.returns-clause-no
returns-clause-no c e h =
    let bytes = c.args.bytes.now in
    let none : c.args.count - c.loop.counter ≡ 0 = omega (arith, c.loop-test.false) in
    let over = none_from c.args.end (drop c.loop.at bytes) (subst (λ (m : ℕ). HasPieces m c.args.end (drop c.loop.at bytes)) none (c.loop.invariant.no h)) in
    let few = c.loop.invariant.few in
    eqb-false c.loop.at (length bytes) e (omega (arith, over, few, length-drop c.loop.at bytes))
