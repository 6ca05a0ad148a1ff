use Rattle.rrd_change.proofs.Common.{rules, arith, ◌≡◌, ◌≤◌, ◌++◌, List, [], ◌∷◌, length, ◌∙◌, ap, max, refl, inl, inr, AreSpans, change_of, IsDatabase, Log, Span, fill_first, first_made, follows_first, leads_first, failed, nothing, steps_as, marked_left}
use Rattle.rrd_change.proofs.log.begin.Goals as goal

pub returns-then-not-is_database-clause-does : goal.returns-then-not-is_database-clause-does
returns-then-not-is_database-clause-does g c = nothing _ _ (λ w end old began agrees marked. inl (inr (inl (marked_left c.args.new.now old w marked))))

pub returns-in_default-clause-does : goal.returns-in_default-clause-does
returns-in_default-clause-does g c = nothing _ _ (λ w end old began agrees marked. inl (inr (inl (marked_left c.args.new.now old w marked))))

pub returns-in_err-bytes-clause-does : goal.returns-in_err-bytes-clause-does
returns-in_err-bytes-clause-does g c = failed _ _ c.from_residual.result _ _ c.from_residual.ensures.0 (nothing _ _ (λ w end old began agrees marked. inl (inr (inl (marked_left c.args.new.now old w marked)))))

pub returns-in_err-extend_from_slice-clause-does : goal.returns-in_err-extend_from_slice-clause-does
returns-in_err-extend_from_slice-clause-does g c =
    failed _ _ c.from_residual-in_err-extend_from_slice.result _ _ c.from_residual-in_err-extend_from_slice.ensures.0 (nothing _ _ (λ w end old began agrees marked. inl (inr (inl (marked_left c.args.new.now old w marked)))))

pub returns-in_err-end-clause-does : goal.returns-in_err-end-clause-does
returns-in_err-end-clause-does g c =
    let new = c.args.new.now in
    let changed = c.args.changed.now in
    let is : IsDatabase new = c.is_database.ensures.0 (search rules) in
    let are : AreSpans (length new) changed = c.in_ok-bytes.ensures.within in
    let behind : max c.args.base.now.length (length new) ≤ c.in-Some.tail = omega (arith, c.max.ensures, c.in-Some.ensures) in
    failed _ _ c.from_residual-in_err-end.result _ _ c.from_residual-in_err-end.ensures.0
    (steps_as _ _ _ _ (λ u v s end old began agrees marked.
    s end old new (change_of (length new) new changed) (first_made c.args.base.now old new changed c.in-Some.tail _ began is are behind (c.deref.ensures.value ∙ c.in_ok-bytes.ensures.ok))
    (leads_first old new changed are agrees) (fill_first old new changed are agrees) marked) c.in_err-end.ensures.does)

pub returns-clause-does : goal.returns-clause-does
returns-clause-does g c =
    let new = c.args.new.now in
    let changed = c.args.changed.now in
    let is : IsDatabase new = c.is_database.ensures.0 (search rules) in
    let are : AreSpans (length new) changed = c.in_ok-bytes.ensures.within in
    let behind : max c.args.base.now.length (length new) ≤ c.in-Some.tail = omega (arith, c.max.ensures, c.in-Some.ensures) in
    let spans : c.extend_from_slice.new.self.items ≡ changed = c.in_ok-extend_from_slice.ensures.items ∙ ap (λ (xs : List Span). xs ++ changed) c.new-spans.ensures.items in
    let log : Log = record { tail = c.in-Some.tail; end = c.in_ok-end.end; spans = c.extend_from_slice.new.self; changes = 1 } in
    steps_as _ _ _ _ (λ u v s old began agrees marked.
    let made = first_made c.args.base.now old new changed c.in-Some.tail c.deref.result.now began is are behind (c.deref.ensures.value ∙ c.in_ok-bytes.ensures.ok) in
    record {
      old = old;
      changes = change_of (length new) new changed ∷ [];
      follows = follows_first c.args.base.now old new changed log c.deref.result.now is are agrees made c.in_ok-end.ensures.end refl spans;
      world = s old (change_of (length new) new changed) made marked;
    }) c.in_ok-end.ensures.does
