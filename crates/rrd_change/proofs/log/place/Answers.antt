use Rattle.rrd_change.proofs.Common.{◌≡◌, ◌≤◌, ◌<◌, ◌-◌, List, [], ◌∷◌, ◌++◌, length, take, drop, get_or, arith, sym, subst, take_all, AreAny, ArePut, IsCut, AreAnyIn, ArePutIn, Moves, Steps, seen, Span, spans_more, any_in_then, first_any, in_part, put_any_in, put_in_more, put_in_none, failed, moves_as, moves_fail, moves_then, steps_as, steps_then, then_sync}
use Rattle.rrd_change.proofs.log.place.Goals as goal

pub returns-in_err-write_all : goal.returns-in_err-write_all
returns-in_err-write_all g c =
    let new = c.args.new.now in
    let spans = c.args.spans.now in
    let none : Span = record { start = 0; end = 0 } in
    let start = c.max-start.result in
    let end = c.min-end.result in
    let bytes = take (end - start) (drop start new) in
    let low : c.loop-number.number < length spans = c.loop-number-test.true in
    let some : start < end = c.if-start-end.true in
    let any = in_part spans c.loop-number.number none new start end low c.max-start.ensures c.min-end.ensures some in
    failed _ _ c.from_residual.result _ _ c.from_residual.ensures.0
    (moves_fail (AreAnyIn spans new) (AreAnyIn spans new) _ _
    (steps_then (Moves (ArePutIn (take c.loop-number.number spans) new) (AreAnyIn spans new)) (Moves (IsCut start bytes) (AreAny start (length bytes))) (Moves (AreAnyIn spans new) (AreAnyIn spans new)) _ _ _
    (λ u v w m n. moves_then _ _ _ _ _ _ (λ x y z p cut. any_in_then spans new x y z (first_any spans c.loop-number.number new x y p) (any y z cut.any))
    (λ x y z a b. any_in_then spans new x y z a (any y z b)) u v w m n) c.loop-number.invariant c.in_err-write_all.ensures))

pub loop-number-preserved : goal.loop-number-preserved
loop-number-preserved g c =
    let new = c.args.new.now in
    let spans = c.args.spans.now in
    let syncs = c.args.syncs in
    let none : Span = record { start = 0; end = 0 } in
    let n = c.loop-number.number in
    let start = c.max-start.result in
    let end = c.min-end.result in
    let bytes = take (end - start) (drop start new) in
    let low : n < length spans = c.loop-number-test.true in
    let old = seen syncs (g.F.Bytes.view c.args.file.now) in
    let mid = seen syncs (g.F.Bytes.view c.loop-number.file) in
    let more = spans_more spans n none low in
    let span = get_or spans n none in
    let P : List Span → Type 0 = λ xs. Steps (Moves (ArePutIn xs new) (AreAnyIn spans new)) old (seen syncs (g.F.Bytes.view c.if-start-end.file)) in
    subst P (sym more) (elim c.if-start-end.branch [
      | goal.then-start-end+in_ok-write_all w ↦
          let some : start < end = w.if-start-end.true in
          let Q : g.row.F.Denot → Type 0 = λ f. Steps (Moves (ArePutIn (take n spans ++ span ∷ []) new) (AreAnyIn spans new)) old (seen syncs (g.F.Bytes.view f)) in
          subst Q (sym w.file-is) (steps_then (Moves (ArePutIn (take n spans) new) (AreAnyIn spans new)) (Moves (ArePut start bytes) (AreAny start (length bytes)))
          (Moves (ArePutIn (take n spans ++ span ∷ []) new) (AreAnyIn spans new)) old mid _
          (λ u v w m k. moves_then _ _ _ _ _ _ (λ x y z p put. put_in_more (take n spans) span new x y z start end c.max-start.ensures c.min-end.ensures some p put)
          (λ x y z a b. any_in_then spans new x y z a (in_part spans n none new start end low c.max-start.ensures c.min-end.ensures some y z b)) u v w m k)
          c.loop-number.invariant w.in_ok-write_all.ensures)
      | goal.else-start-end w ↦
          let few : end ≤ start = w.if-start-end.false in
          let Q : g.row.F.Denot → Type 0 = λ f. Steps (Moves (ArePutIn (take n spans ++ span ∷ []) new) (AreAnyIn spans new)) old (seen syncs (g.F.Bytes.view f)) in
          subst Q (sym w.file-is) (steps_as (Moves (ArePutIn (take n spans) new) (AreAnyIn spans new)) (Moves (ArePutIn (take n spans ++ span ∷ []) new) (AreAnyIn spans new)) old mid
          (λ u v m. moves_as _ _ _ _ (λ x y p. put_in_none (take n spans) span new x y (omega (arith, few, c.max-start.ensures, c.min-end.ensures)) p) (λ x y a. a) u v m) c.loop-number.invariant)
    ])

pub returns : goal.returns
returns g c =
    let new = c.args.new.now in
    let spans = c.args.spans.now in
    let syncs = c.args.syncs in
    let all : take c.loop-number.number spans ≡ spans = take_all c.loop-number.number spans c.loop-number-test.false in
    let P : List Span → Type 0 = λ xs. Steps (Moves (ArePutIn xs new) (AreAnyIn spans new)) (seen syncs (g.F.Bytes.view c.args.file.now)) (seen syncs (g.F.Bytes.view c.loop-number.file)) in
    then_sync (ArePutIn spans new) (AreAnyIn spans new) (AreAnyIn spans new) c.flush.result _ _ _ (λ x y p. put_any_in spans new x y p) (subst P all c.loop-number.invariant) c.flush.ensures
