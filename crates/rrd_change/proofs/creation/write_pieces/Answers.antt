use Rattle.rrd_change.proofs.Common.{◌≡◌, ◌≤◌, ◌<◌, ◌+◌, ◌-◌, length, arith, min, IsMadeTo, StaysFirst, Moves, any_first, first_then, made_more, moves_then, steps_then}
use Rattle.rrd_change.proofs.creation.write_pieces.Goals as goal

pub loop-at-preserved : goal.loop-at-preserved
loop-at-preserved g c =
    let new = c.args.new.now in
    let at = c.loop-at.at in
    let high : 16 ≤ at = c.loop-at.invariant.high in
    let low : at < length new = c.loop-at-test.true in
    let least : c.min.result ≡ min 65536 (length new - at) = c.min.ensures in
    let few : at + c.min.result ≤ length new = omega (arith, low, least) in
    record {
      high = omega (arith, high);
      few = omega (arith, few);
      moves = steps_then (Moves (IsMadeTo at new) StaysFirst) _ (Moves (IsMadeTo (at + c.min.result) new) StaysFirst) _ _ _
          (λ u v w m n. moves_then _ _ _ _ _ _ (λ x y z p put. made_more at (at + c.min.result) new x y z high (omega arith) few p put)
          (λ x y z a b. first_then x y z a (any_first at _ y z high b)) u v w m n) c.loop-at.invariant.moves c.in_ok-write_all.ensures;
    }
