use Rattle.rrd_change.proofs.Common.{rules, ◌≡◌, ℕ, List, length, subst, inl, inr, ArePut, AreWholeOrNot, IsSized, IsSizedOrNot, IsTorn, IsUnderCut, IsUncut, IsDatabase, IsMarked, cut_of, All, Effect, Fails, Steps, Stores, seen, fails_all, stores_all, front_failed, front_stored, front_under, plain_uncut, under_uncut, cut_front_of, cut_sized, sized_stands, does_then, failed, steps_as, steps_then, plain_left, under_left}
use Rattle.rrd_change.proofs.repair.finish_cut.Goals as goal

pub returns-in_err-mark_and_sync : goal.returns-in_err-mark_and_sync
returns-in_err-mark_and_sync g c =
    let new = c.args.new.now in
    let syncs = c.args.syncs in
    let Q : List ℕ → Type 0 = λ m. Steps (Fails (AreWholeOrNot 0 m) (IsTorn 0 m)) (seen syncs (g.F.Bytes.view c.args.file.now)) (seen syncs (g.F.Bytes.view c.mark_and_sync.new.file)) in
    let fails = subst Q c.cut_front.ensures c.in_err-mark_and_sync.ensures in
    let front = cut_front_of new in
    record {
      uncut = search (rules, failed, steps_as, front_failed);
      left = failed _ _ c.from_residual.result _ _ c.from_residual.ensures.0
          (steps_as (Fails (AreWholeOrNot 0 front) (IsTorn 0 front)) _ _ _ (λ u v f end other h. inr (inl (front_under other new u v f h))) fails);
    }

pub returns-in_err-resize_and_sync : goal.returns-in_err-resize_and_sync
returns-in_err-resize_and_sync g c =
    let new = c.args.new.now in
    let syncs = c.args.syncs in
    let front = cut_front_of new in
    let Q : List ℕ → Type 0 = λ m. Steps (Stores (ArePut 0 m)) (seen syncs (g.F.Bytes.view c.args.file.now)) (seen syncs (g.F.Bytes.view c.mark_and_sync.new.file)) in
    let sized = IsSizedOrNot (length new) in
    let Under : Effect = λ u w. (other : List ℕ) → IsUncut other new u → All (IsUnderCut new) w in
    let under : Steps Under _ _ = steps_then (Stores (ArePut 0 front)) (Fails sized sized) Under _ _ _ (λ u v w s f other h.
    fails_all (IsUnderCut new) (IsUnderCut new) sized sized v w (λ y z under is. sized_stands new y z under is) (λ y z under is. sized_stands new y z under is) f (front_stored other new u v s h))
    (subst Q c.cut_front.ensures c.in_ok-mark_and_sync.ensures) c.in_err-resize_and_sync.ensures in
    record {
      uncut = failed _ _ c.from_residual-in_err-resize_and_sync.result _ _ c.from_residual-in_err-resize_and_sync.ensures.0
          (steps_as Under _ _ _ (λ u w s other h. under_uncut other new w h.is (s other h)) under);
      left = failed _ _ c.from_residual-in_err-resize_and_sync.result _ _ c.from_residual-in_err-resize_and_sync.ensures.0
          (steps_as Under _ _ _ (λ u w s end other h. inr (inl (under_left other new w h.uncut.is (s other h.uncut)))) under);
    }

pub returns : goal.returns
returns g c =
    let new = c.args.new.now in
    let syncs = c.args.syncs in
    let front = cut_front_of new in
    let is_new : IsDatabase new = c.is_database.ensures.0 (search rules) in
    let Q : List ℕ → Type 0 = λ m. Steps (Stores (ArePut 0 m)) (seen syncs (g.F.Bytes.view c.args.file.now)) (seen syncs (g.F.Bytes.view c.mark_and_sync.new.file)) in
    let Cut : Effect = λ u w. (other : List ℕ) → IsUncut other new u → IsMarked new w in
    let cut : Steps Cut _ _ = steps_then (Stores (ArePut 0 front)) (Stores (IsSized (length new))) Cut _ _ _ (λ u v w s f other h.
    record { is = is_new; world = stores_all (IsUnderCut new) (λ y. y ≡ cut_of new) (IsSized (length new)) v w (λ y z under sized. cut_sized new y z is_new under sized) f (front_stored other new u v s h) })
    (subst Q c.cut_front.ensures c.in_ok-mark_and_sync.ensures) c.in_ok-resize_and_sync.ensures in
    record {
      uncut = search (rules, does_then, plain_uncut);
      left = does_then Cut _ _ _ _ c.unmark.result _ _ _ (λ x u v w cut m. tt) (λ u v w cut m end other h. plain_left end other new w is_new (m new (cut other h.uncut)))
          cut c.unmark.ensures;
    }
