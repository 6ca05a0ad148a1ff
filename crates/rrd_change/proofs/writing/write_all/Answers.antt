use Rattle.rrd_change.proofs.Common.{◌+◌, ◌-◌, ◌≤◌, ◌≡◌, ℕ, List, length, drop, take, arith, length-drop, length-take, subst, take_all, AreAny, IsCut, IsFrontPut, FailsToWrite, Moves, Steps, Writes, seen, any_in, any_then, cut_then, front_then, failed, moves_then, seen_moves, steps_then}
use Rattle.rrd_change.proofs.writing.write_all.Goals as goal

pub returns-in_err-count : goal.returns-in_err-count
returns-in_err-count g c =
    let at = c.args.at in
    let bytes = c.args.bytes.now in
    let done = c.loop-done.done in
    let syncs = c.args.syncs in
    let few : done ≤ length bytes = c.loop-done.invariant.few in
    let rest : take (length bytes - done) (drop done bytes) ≡ drop done bytes = take_all (length bytes - done) (drop done bytes) (omega (arith, length-drop done bytes)) in
    let old = g.F.Bytes.view c.args.file.now in
    let mid = g.F.Bytes.view c.loop-done.file in
    let new = g.F.Bytes.view c.write.new.self in
    let P : List ℕ → Type 0 = λ xs. Steps (FailsToWrite (at + done) xs) mid new in
    let size = length-drop done bytes in
    failed _ _ c.from_residual.result _ _ c.from_residual.ensures.0
    (steps_then (Moves (IsFrontPut at done bytes) (AreAny at (length bytes))) (Moves (IsCut (at + done) (drop done bytes)) (AreAny (at + done) (length (drop done bytes))))
    (Moves (IsCut at bytes) (AreAny at (length bytes))) (seen syncs old) (seen syncs mid) (seen syncs new)
    (λ u v w m n. moves_then _ _ _ _ _ _ (λ x y z p q. cut_then at done bytes x y z few p q)
    (λ x y z p q. any_then at (length bytes) x y z p (any_in at (length bytes) done (length (drop done bytes)) y z (omega (arith, size, few)) q)) u v w m n)
    c.loop-done.invariant.moves
    (seen_moves syncs (IsCut (at + done) (drop done bytes)) (AreAny (at + done) (length (drop done bytes))) mid new (subst P rest c.in_err-count.ensures.does)))

pub loop-done-preserved : goal.loop-done-preserved
loop-done-preserved g c =
    let at = c.args.at in
    let bytes = c.args.bytes.now in
    let done = c.loop-done.done in
    let n = c.in_ok-count.count in
    let syncs = c.args.syncs in
    let few : done ≤ length bytes = c.loop-done.invariant.few in
    let size = length-drop done bytes in
    let more : n ≤ length (take (length bytes - done) (drop done bytes)) = c.in_ok-count.ensures.few in
    let rest : take (length bytes - done) (drop done bytes) ≡ drop done bytes = take_all (length bytes - done) (drop done bytes) (omega (arith, size)) in
    let old = g.F.Bytes.view c.args.file.now in
    let mid = g.F.Bytes.view c.loop-done.file in
    let new = g.F.Bytes.view c.write.new.self in
    let P : List ℕ → Type 0 = λ xs. Steps (Writes (at + done) xs n) mid new in
    record {
      few = omega (arith, more, few, length-take (length bytes - done) (drop done bytes), size);
      moves = steps_then (Moves (IsFrontPut at done bytes) (AreAny at (length bytes))) (Moves (IsFrontPut (at + done) n (drop done bytes)) (AreAny (at + done) (length (drop done bytes))))
          (Moves (IsFrontPut at (done + n) bytes) (AreAny at (length bytes))) (seen syncs old) (seen syncs mid) (seen syncs new)
          (λ u v w m k. moves_then _ _ _ _ _ _ (λ x y z p q. front_then at done n bytes x y z few p q)
          (λ x y z p q. any_then at (length bytes) x y z p (any_in at (length bytes) done (length (drop done bytes)) y z (omega (arith, size, few)) q)) u v w m k)
          c.loop-done.invariant.moves
          (seen_moves syncs (IsFrontPut (at + done) n (drop done bytes)) (AreAny (at + done) (length (drop done bytes))) mid new (subst P rest c.in_ok-count.ensures.does));
    }
