use Rattle.rrd_change.proofs.Common.{rules, ◌≡◌, ℕ, List, length, inl, inr, subst, ArePut, AreWholeOrNot, IsSized, IsSizedOrNot, IsTorn, IsUnderCut, AreAnyIn, ArePutIn, IsDatabase, IsLogOf, IsOpen, cut_of, All, Effect, Fails, Steps, Stores, seen, Span, fails_all, stores_all, old_below, IsPlaced, cut_front_of, cut_placed, cut_sized, open_any, placed_put, reach_placed, sized_stands, does_then, failed, steps_as, steps_then, front_left, open_left, placed_marked, under_left}
use Rattle.rrd_change.proofs.log.Log.settle.Goals as goal

pub returns-in_err-place_united : goal.returns-in_err-place_united
returns-in_err-place_united g c =
    let new = c.args.new.now in
    let log = c.args.self.now in
    let spans = log.spans.items in
    let P : List Span → Type 0 = λ xs. Steps (Fails (AreAnyIn xs new) (AreAnyIn xs new)) (seen c.args.syncs (g.F.Bytes.view c.args.file.now)) (seen c.args.syncs (g.F.Bytes.view c.place_united.new.file)) in
    failed _ _ c.from_residual.result _ _ c.from_residual.ensures.0
    (steps_as (Fails (AreAnyIn spans new) (AreAnyIn spans new)) _ _ _ (λ u v s end other is.
    inr (inr (open_left end other new is.old log.tail is.changes v is.follows.leads is.follows.fill
    (fails_all (IsOpen is.old log.tail is.changes) (IsOpen is.old log.tail is.changes) (AreAnyIn spans new) (AreAnyIn spans new) u v
    (λ x f is_open any. open_any is.old new is.changes log x f is.follows is_open any) (λ x f is_open any. open_any is.old new is.changes log x f is.follows is_open any) s is.world))))
    (subst P c.deref.ensures.value c.in_err-place_united.ensures))

pub returns-in_err-mark_and_sync : goal.returns-in_err-mark_and_sync
returns-in_err-mark_and_sync g c =
    let new = c.args.new.now in
    let log = c.args.self.now in
    let spans = log.spans.items in
    let syncs = c.args.syncs in
    let old = seen syncs (g.F.Bytes.view c.args.file.now) in
    let mid = seen syncs (g.F.Bytes.view c.place_united.new.file) in
    let after = seen syncs (g.F.Bytes.view c.mark_and_sync.new.file) in
    let front = cut_front_of new in
    let P : List Span → Type 0 = λ xs. Steps (Stores (ArePutIn xs new)) old mid in
    let Q : List ℕ → Type 0 = λ m. Steps (Fails (AreWholeOrNot 0 m) (IsTorn 0 m)) mid after in
    failed _ _ c.from_residual-in_err-mark_and_sync.result _ _ c.from_residual-in_err-mark_and_sync.ensures.0
    (steps_then (Stores (ArePutIn spans new)) (Fails (AreWholeOrNot 0 front) (IsTorn 0 front)) _ old mid after (λ u v w s f end other is.
    let below = old_below is.old log.tail is.changes u.held is.world.held.logged in
    front_left end other is.old new is.changes log w is.follows (placed_marked is.old new is.changes log v w is.follows below f
    (stores_all (IsOpen is.old log.tail is.changes) (IsPlaced is.old new is.changes log) (ArePutIn spans new) u v (λ x y is_open put. placed_put is.old new is.changes log x y is.follows is_open put) s is.world)))
    (subst P c.deref.ensures.value c.in_ok-place_united.ensures) (subst Q c.cut_front.ensures c.in_err-mark_and_sync.ensures))

pub returns : goal.returns
returns g c =
    let new = c.args.new.now in
    let log = c.args.self.now in
    let spans = log.spans.items in
    let syncs = c.args.syncs in
    let old = seen syncs (g.F.Bytes.view c.args.file.now) in
    let mid = seen syncs (g.F.Bytes.view c.place_united.new.file) in
    let cut = seen syncs (g.F.Bytes.view c.mark_and_sync.new.file) in
    let after = seen syncs (g.F.Bytes.view c.resize_and_sync.new.file) in
    let front = cut_front_of new in
    let is_new : IsDatabase new = c.is_database.ensures.0 (search rules) in
    let P : List Span → Type 0 = λ xs. Steps (Stores (ArePutIn xs new)) old mid in
    let Q : List ℕ → Type 0 = λ m. Steps (Stores (ArePut 0 m)) mid cut in
    let Under : Effect = λ u w. IsLogOf new log u → All (IsUnderCut new) w in
    does_then Under _ _ _ _ c.resize_and_sync.result old cut after
    (λ x u v w under s is. record { is = is_new; world = stores_all (IsUnderCut new) (λ f. f ≡ cut_of new) (IsSized (length new)) v w (λ y z h sized. cut_sized new y z is_new h sized) s (under is) })
    (λ u v w under f end other is. inr (inl (under_left other new w is_new
    (fails_all (IsUnderCut new) (IsUnderCut new) (IsSizedOrNot (length new)) (IsSizedOrNot (length new)) v w (λ y z h sized. sized_stands new y z h sized) (λ y z h sized. sized_stands new y z h sized) f (under is)))))
    (steps_then (Stores (ArePutIn spans new)) (Stores (ArePut 0 front)) Under old mid cut (λ u v w s f is.
    stores_all (IsPlaced is.old new is.changes log) (IsUnderCut new) (ArePut 0 front) v w
    (λ x y placed put. cut_placed new x y is_new (reach_placed is.old new is.changes log x is.follows placed) placed.placed put) f
    (stores_all (IsOpen is.old log.tail is.changes) (IsPlaced is.old new is.changes log) (ArePutIn spans new) u v (λ x y is_open put. placed_put is.old new is.changes log x y is.follows is_open put) s is.world))
    (subst P c.deref.ensures.value c.in_ok-place_united.ensures) (subst Q c.cut_front.ensures c.in_ok-mark_and_sync.ensures))
    c.resize_and_sync.ensures
