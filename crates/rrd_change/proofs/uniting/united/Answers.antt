use Rattle.rrd_change.proofs.Common.{◌≡◌, ◌<◌, ◌+◌, ◌++◌, ◌∷◌, [], ◌∙◌, ap, ℕ, List, arith, length, subst, sym, take, IsPermutation, take_all, IsIn, Span, grown_in, in_grown, in_more, in_permuted, in_permuted_back, spans_more}
use Rattle.rrd_change.proofs.uniting.united.Goals as goal

pub loop-number-preserved : goal.loop-number-preserved
loop-number-preserved c =
    let sorted = c.sort_unstable_by_key.new.self.items in
    let n = c.loop-number.number in
    let all = c.loop-number.all.items in
    let last = c.loop-number.last in
    let next = c.index-next.result.now in
    let low : n < length sorted = omega (arith, c.loop-number-test.true, c.len-number-end.ensures, c.sort_unstable_by_key.new.self.ok.0) in
    let more : take (n + 1) sorted ≡ take n sorted ++ next ∷ [] = spans_more sorted n next low ∙ ap (λ (s : Span). take n sorted ++ s ∷ []) (sym c.index-next.ensures) in
    let was : List Span = all ++ last ∷ [] in
    let each : (k : ℕ) → IsIn k (take (n + 1) sorted) → IsIn k (was ++ next ∷ []) = λ k h.
    in_more k (take n sorted) was next (c.loop-number.invariant.each k) (subst (IsIn k) more h) in
    let only : (k : ℕ) → IsIn k (was ++ next ∷ []) → IsIn k (take (n + 1) sorted) = λ k h.
    subst (IsIn k) (sym more) (in_more k was (take n sorted) next (c.loop-number.invariant.only k) h) in
    let Q : List Span → Type 0 = λ xs. (k : ℕ) → IsIn k (take (n + 1) sorted) → IsIn k xs in
    let R : List Span → Type 0 = λ xs. (k : ℕ) → IsIn k xs → IsIn k (take (n + 1) sorted) in
    elim c.if-last-next.branch [
      | goal.then-last-next+then-next-last w ↦
          let grown : Span = record { start = last.start; end = w.max.result } in
          let e : c.if-last-next.all.items ++ c.if-last-next.last ∷ [] ≡ all ++ grown ∷ [] =
          ap (λ (xs : List Span). xs ++ c.if-last-next.last ∷ []) (ap (λ v. v.items) w.all-is) ∙ ap (λ (s : Span). all ++ s ∷ []) w.last-is in
          record {
            each = subst Q (sym e) (λ k h. grown_in k all last next w.max.result w.if-last-next.true w.max.ensures (each k h));
            only = subst R (sym e) (λ k h. only k (in_grown k all last next w.max.result w.if-last-next.true w.if-next-last.true w.max.ensures h));
          }
      | goal.else-last-next+in_ok-push w ↦
          let e : c.if-last-next.all.items ++ c.if-last-next.last ∷ [] ≡ was ++ next ∷ [] =
          ap (λ (xs : List Span). xs ++ c.if-last-next.last ∷ []) (ap (λ v. v.items) w.all-is ∙ w.in_ok-push.ensures.items) ∙ ap (λ (s : Span). was ++ s ∷ []) w.last-is in
          record { each = subst Q (sym e) each; only = subst R (sym e) only }
    ]

pub returns : goal.returns
returns c =
    let sorted = c.sort_unstable_by_key.new.self.items in
    let spans = c.args.spans.now in
    let first : c.in_ok-sorted.sorted.items ≡ spans = c.in_ok-sorted.ensures.items in
    let all : take c.loop-number.number sorted ≡ sorted = take_all c.loop-number.number sorted (omega (arith, c.loop-number-test.false, c.len-number-end.ensures, c.sort_unstable_by_key.new.self.ok.0)) in
    let moved : IsPermutation spans sorted = let P : List Span → Type 0 = λ xs. IsPermutation xs sorted in subst P first c.sort_unstable_by_key.ensures.permutation in
    let pushed = c.in_ok-push-2.ensures.items in
    λ k.
    let P : List Span → Type 0 = λ xs. IsIn k xs in (
      λ h. in_permuted_back k spans sorted moved (subst P all (c.loop-number.invariant.only k (subst P pushed h))),
      λ h. subst P (sym pushed) (c.loop-number.invariant.each k (subst P (sym all) (in_permuted k spans sorted moved h))),
    )
