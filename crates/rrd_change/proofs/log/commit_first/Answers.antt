use Rattle.rrd_change.proofs.Common.{◌≡◌, ◌<◌, ◌^◌, ℕ, List, [], ◌∷◌, length, arith, inl, inr, subst, AreAny, ArePut, AreWholeOrNot, IsCut, IsTorn, log_mark, IsUnderCut, IsOpen, IsReady, cut_of, Fails, Steps, Stores, seen, behind_stands, open_marked, open_put, ready_put, fails_all, stores_all, failed, nothing, steps_as, steps_then, begun_stopped, marked_left, under_left}
use Rattle.rrd_change.proofs.log.commit_first.Goals as goal

pub returns-in_default-clause-does : goal.returns-in_default-clause-does
returns-in_default-clause-does g c =
    nothing _ _ (λ w end old new x first leads fill marked. inl (inr (inl (marked_left new old w marked))))

pub returns-in_err-write_and_sync-clause-does : goal.returns-in_err-write_and_sync-clause-does
returns-in_err-write_and_sync-clause-does g c =
    let at = c.args.at in
    let bytes = c.args.bytes.now in
    failed _ _ c.from_residual.result _ _ c.from_residual.ensures.0
    (steps_as (Fails (IsCut at bytes) (AreAny at (length bytes))) _ _ _ (λ u v s end old new x first leads fill marked.
    inl (inr (inl (under_left new old v marked.is (fails_all (λ f. f ≡ cut_of old) (IsUnderCut old) (IsCut at bytes) (AreAny at (length bytes)) u v
    (λ y f e cut. behind_stands old y f at (length bytes) marked.is e first.behind cut.any)
    (λ y f e any. behind_stands old y f at (length bytes) marked.is e first.behind any) s marked.world))))) c.in_err-write_and_sync.ensures)

pub returns-in_err-mark_and_sync-clause-does : goal.returns-in_err-mark_and_sync-clause-does
returns-in_err-mark_and_sync-clause-does g c =
    let at = c.args.at in
    let bytes = c.args.bytes.now in
    let tail = c.args.tail in
    let syncs = c.args.syncs in
    let few : length bytes < 2 ^ 64 = omega (arith, c.in-Some.ensures) in
    let mid = seen syncs (g.F.Bytes.view c.write_and_sync.new.file) in
    let new = seen syncs (g.F.Bytes.view c.mark_and_sync.new.file) in
    let P : List ℕ → Type 0 = λ m. Steps (Fails (AreWholeOrNot 0 m) (IsTorn 0 m)) mid new in
    failed _ _ c.from_residual-in_err-mark_and_sync.result _ _ c.from_residual-in_err-mark_and_sync.ensures.0
    (steps_then (Stores (ArePut at bytes)) (Fails (AreWholeOrNot 0 (log_mark tail)) (IsTorn 0 (log_mark tail))) _ _ mid new (λ u v w s f end old now x first leads fill marked.
    begun_stopped end old now tail (x ∷ []) w first.is first.below leads fill
    (open_marked old tail (x ∷ []) v w f
    (stores_all (λ y. y ≡ cut_of old) (IsReady old tail (x ∷ [])) (ArePut at bytes) u v (λ y z e put. ready_put old tail x at bytes y z first c.ranges.tail.fits few e put) s marked.world)))
    c.in_ok-write_and_sync.ensures (subst P c.log_mark.ensures c.in_err-mark_and_sync.ensures))

pub returns-clause-does : goal.returns-clause-does
returns-clause-does g c =
    let at = c.args.at in
    let bytes = c.args.bytes.now in
    let tail = c.args.tail in
    let syncs = c.args.syncs in
    let few : length bytes < 2 ^ 64 = omega (arith, c.in-Some.ensures) in
    let mid = seen syncs (g.F.Bytes.view c.write_and_sync.new.file) in
    let new = seen syncs (g.F.Bytes.view c.mark_and_sync.new.file) in
    let P : List ℕ → Type 0 = λ m. Steps (Stores (ArePut 0 m)) mid new in
    steps_then (Stores (ArePut at bytes)) (Stores (ArePut 0 (log_mark tail))) _ _ mid new (λ u v w s f old x first marked.
    stores_all (IsReady old tail (x ∷ [])) (IsOpen old tail (x ∷ [])) (ArePut 0 (log_mark tail)) v w
    (λ y z ready put. open_put old tail (x ∷ []) y z ready put) f
    (stores_all (λ y. y ≡ cut_of old) (IsReady old tail (x ∷ [])) (ArePut at bytes) u v (λ y z e put. ready_put old tail x at bytes y z first c.ranges.tail.fits few e put) s marked.world))
    c.in_ok-write_and_sync.ensures (subst P c.log_mark.ensures c.in_ok-mark_and_sync.ensures)
