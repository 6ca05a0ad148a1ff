-- Lemmas on bringing spans into place.
use Rattle.rrd_change.proofs.Names.{◌≡◌, ℕ, zero, suc, ◌+◌, ◌-◌, ◌<◌, ◌≤◌, max, min, List, [], ◌∷◌, ◌++◌, length, take, drop, get_or, refl, sym, ◌∙◌, ap, subst, arith, inl, inr, ◌⊎◌, cases_lt, length-take, length-drop, get_or-take, get_or-drop, take-append-drop, AreAny, ArePut, IsIn, AreAnyIn, ArePutIn, Span, common_steps}

pub in_join : (k : ℕ) (xs ys : List Span) → IsIn k (xs ++ ys) → IsIn k xs ⊎ IsIn k ys
in_join k [] ys h = inr h
in_join k (x ∷ xs) ys (inl h) = inl (inl h)
in_join k (x ∷ xs) ys (inr h) = grind (arith, in_join k xs ys h)

pub in_left : (k : ℕ) (xs ys : List Span) → IsIn k xs → IsIn k (xs ++ ys)
in_left k [] ys h = absurd h
in_left k (x ∷ xs) ys (inl h) = inl h
in_left k (x ∷ xs) ys (inr h) = inr (in_left k xs ys h)

pub in_right : (k : ℕ) (xs ys : List Span) → IsIn k ys → IsIn k (xs ++ ys)
in_right k [] ys h = h
in_right k (x ∷ xs) ys h = inr (in_right k xs ys h)

-- a span of a list
pub in_at : (k : ℕ) (spans : List Span) (n : ℕ) (none : Span) → n < length spans → (get_or spans n none).start ≤ k → k < (get_or spans n none).end → IsIn k spans
in_at k [] n none low from to = absurd (omega (arith, low))
in_at k (s ∷ spans) zero none low from to = inl (from, to)
in_at k (s ∷ spans) (suc n) none low from to = inr (in_at k spans n none (omega (arith, low)) from to)

pub any_in_then : (spans : List Span) (new old mid file : List ℕ) → AreAnyIn spans new old mid → AreAnyIn spans new mid file → AreAnyIn spans new old file
any_in_then spans new old mid file a b = grind arith

-- a write within a span
pub span_any : (spans : List Span) (new old file : List ℕ) (start count : ℕ) → 16 ≤ start → start + count ≤ length new → ((k : ℕ) → start ≤ k → k < start + count → IsIn k spans) →
    AreAny start count old file → AreAnyIn spans new old file
span_any spans new old file start count high few are a = grind arith

pub put_none : (new old : List ℕ) → ArePutIn [] new old old
put_none new old = record { longer = omega arith; bound = omega arith; put = λ k high low is. absurd is; same = λ k. inl refl }

-- one more span is in place
pub put_in_more : (xs : List Span) (s : Span) (new old mid file : List ℕ) (start end : ℕ) → start ≡ max s.start 16 → end ≡ min s.end (length new) → start < end →
    ArePutIn xs new old mid → ArePut start (take (end - start) (drop start new)) mid file → ArePutIn (xs ++ s ∷ []) new old file
put_in_more xs s new old mid file start end at_start at_end some was put =
    let size : length (take (end - start) (drop start new)) ≡ end - start = omega (arith, length-take (end - start) (drop start new), length-drop start new, at_end) in
    let reach : start + length (take (end - start) (drop start new)) ≡ end = omega (arith, size, some) in
    let value : (k : ℕ) → start ≤ k → k < end → get_or file k 0 ≡ get_or new k 0 = λ k from to.
    let here : start + (k - start) ≡ k = omega (arith, from) in
    ap (λ n. get_or file n 0) (sym here) ∙ put.inside (k - start) (omega (arith, from, to, size)) ∙ get_or-take (end - start) (drop start new) (k - start) 0 (omega (arith, from, to))
    ∙ get_or-drop start new (k - start) 0 ∙ ap (λ n. get_or new n 0) here in
    record {
      longer = omega (arith, was.longer, put.len);
      bound = omega (arith, was.bound, put.len, reach, at_end);
      put = λ k high low is. grind (arith, in_join k xs (s ∷ []) is);
      same = λ k. elim (cases_lt k start) [
        | inl before ↦ grind (arith, in_left)
        | inr from ↦ elim (cases_lt k end) [
          | inl to ↦ inr (omega (arith, from, at_start), omega (arith, to, at_end), in_right k xs (s ∷ []) (inl (omega (arith, from, at_start), omega (arith, to, at_end))))
          | inr behind ↦ grind (arith, in_left)
        ]
      ];
    }

-- an empty span changes nothing
pub put_in_none : (xs : List Span) (s : Span) (new old file : List ℕ) → min s.end (length new) ≤ max s.start 16 → ArePutIn xs new old file → ArePutIn (xs ++ s ∷ []) new old file
put_in_none xs s new old file none was = record {
  longer = was.longer;
  bound = was.bound;
  put = λ k high low is. grind (arith, in_join k xs (s ∷ []) is);
  same = λ k. grind (arith, in_left);
}

pub put_any_in : (spans : List Span) (new old file : List ℕ) → ArePutIn spans new old file → AreAnyIn spans new old file
put_any_in spans new old file p = record { longer = p.longer; bound = p.bound; same = p.same }

-- a part of a span is written, in the terms of the code
pub in_part : (spans : List Span) (n : ℕ) (none : Span) (new : List ℕ) (start end : ℕ) → n < length spans → start ≡ max (get_or spans n none).start 16 →
    end ≡ min (get_or spans n none).end (length new) → start < end → (old file : List ℕ) → AreAny start (length (take (end - start) (drop start new))) old file → AreAnyIn spans new old file
in_part spans n none new start end low at_start at_end some old file a = grind (arith, common_steps, length-take, length-drop, span_any, in_at)

in_take : (k : ℕ) (spans : List Span) (n : ℕ) → IsIn k (take n spans) → IsIn k spans
in_take k spans n h = let P : List Span → Type 0 = λ xs. IsIn k xs in subst P (take-append-drop n spans) (in_left k (take n spans) (drop n spans) h)

-- the first spans are in place
pub first_any : (spans : List Span) (n : ℕ) (new old file : List ℕ) → ArePutIn (take n spans) new old file → AreAnyIn spans new old file
first_any spans n new old file p = grind (arith, in_take)
