use Rattle.rrd_change.proofs.Common.{arith, rules, ◌≡◌, length, take, inl, ArePut, IsSized, IsEmpty, IsMadeTo, IsDatabase, All, Effect, Stores, fails_all, stores_all, IsBehind, begun_sized, made_whole, unmade_first, made_marked, does_then, failed, steps_then}
use Rattle.rrd_change.proofs.creation.create.Goals as goal

pub returns-in_err-write_pieces : goal.returns-in_err-write_pieces
returns-in_err-write_pieces g c = search (rules, failed, steps_then, fails_all, unmade_first, stores_all, begun_sized)

pub returns : goal.returns
returns g c =
    let new = c.args.new.now in
    let is_new : IsDatabase new = c.is_database.ensures.0 (search rules) in
    let Behind : Effect = λ u w. IsEmpty u → All (IsBehind new) w in
    does_then Behind _ _ _ _ c.mark_and_sync.result _ _ _
    (λ x u v w b s e.
    let all = stores_all (IsBehind new) (λ f. f ≡ new) (ArePut 0 (take 16 new)) v w (λ y z h put. made_whole new y z is_new h put) s (b e) in
    record { is = is_new; world = record { held = all.held; leave = λ f left. inl (all.leave f left); keep = λ f kept. inl (all.keep f kept) } })
    (λ u v w b f e. made_marked new v w is_new f (b e))
    (steps_then (Stores (IsSized 16)) (Stores (IsMadeTo (length new) new)) Behind _ _ _ (λ u v w s m e. grind arith) c.in_ok-resize_and_sync.ensures c.in_ok-write_pieces.ensures)
    c.mark_and_sync.ensures
