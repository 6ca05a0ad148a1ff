-- Lemmas on spans that become one.
use Rattle.rrd_change.proofs.Names.{common_steps, ◌≡◌, ℕ, ◌≤◌, Bool, true, ◌&&◌, max, List, [], ◌∷◌, ◌++◌, sym, ◌∙◌, arith, inl, inr, ◌↔◌, IsPermutation, nat_le, nat_lt, list_any, and_parts, leb-true, ltb-true, or_cases, list_any-IsPermutation, or-true, IsIn, AreAnyIn, ArePutIn, Fails, Stores, World, Span}
use Rattle.rrd_change.proofs.Placing.{in_join, in_left, in_right}

-- whether byte k is in a span
has : ℕ → Span → Bool
has k s = nat_le s.start k && nat_lt k s.end

has_any : (k : ℕ) (spans : List Span) → IsIn k spans → list_any (has k) spans ≡ true
unfolding has
has_any k [] h = absurd h
has_any k (s ∷ spans) (inl h) = grind arith
has_any k (s ∷ spans) (inr h) = rw (has_any k spans h) (or-true (has k s))

any_has : (k : ℕ) (spans : List Span) → list_any (has k) spans ≡ true → IsIn k spans
unfolding has
any_has k [] e = cc
any_has k (s ∷ spans) e = grind (arith, common_steps, or_cases (has k s) (list_any (has k) spans) e, and_parts (nat_le s.start k) (nat_lt k s.end), leb-true s.start k, ltb-true k s.end, any_has k spans)

pub in_permuted : (k : ℕ) (xs ys : List Span) → IsPermutation xs ys → IsIn k xs → IsIn k ys
in_permuted k xs ys p h = any_has k ys (sym (list_any-IsPermutation (has k) xs ys p) ∙ has_any k xs h)

pub in_permuted_back : (k : ℕ) (xs ys : List Span) → IsPermutation xs ys → IsIn k ys → IsIn k xs
in_permuted_back k xs ys p h = any_has k xs (list_any-IsPermutation (has k) xs ys p ∙ has_any k ys h)

-- the last span takes up one that begins within it or at its end
pub in_grown : (k : ℕ) (all : List Span) (last s : Span) (end : ℕ) → last.start ≤ s.start → s.start ≤ last.end → end ≡ max last.end s.end →
    IsIn k (all ++ record { start = last.start; end = end } ∷ []) → IsIn k ((all ++ last ∷ []) ++ s ∷ [])
in_grown k all last s end low high e h = grind (arith, common_steps, in_join k all (record { start = last.start; end = end } ∷ []) h, in_left k (all ++ last ∷ []) (s ∷ []), in_left k all (last ∷ []), in_left, in_right)

pub grown_in : (k : ℕ) (all : List Span) (last s : Span) (end : ℕ) → last.start ≤ s.start → end ≡ max last.end s.end → IsIn k ((all ++ last ∷ []) ++ s ∷ []) →
    IsIn k (all ++ record { start = last.start; end = end } ∷ [])
grown_in k all last s end low e h = grind (arith, common_steps, in_join k (all ++ last ∷ []) (s ∷ []) h, in_join k all (last ∷ []), in_left k all, in_right k all)

-- one more span on both sides
pub in_more : (k : ℕ) (xs ys : List Span) (s : Span) → (IsIn k xs → IsIn k ys) → IsIn k (xs ++ s ∷ []) → IsIn k (ys ++ s ∷ [])
in_more k xs ys s to h = grind (arith, common_steps, in_join k xs (s ∷ []) h, in_left k ys (s ∷ []), in_right k ys (s ∷ []))

-- ---- bringing into place

-- two lists have the same bytes
abbrev pub AreSame : List Span → List Span → Type 0
AreSame xs ys = (k : ℕ) → IsIn k xs ↔ IsIn k ys

pub stores_in_same : (xs ys : List Span) (new : List ℕ) (u v : World) → AreSame xs ys → Stores (ArePutIn xs new) u v → Stores (ArePutIn ys new) u v
stores_in_same xs ys new u v same s = grind arith

pub fails_in_same : (xs ys : List Span) (new : List ℕ) (u v : World) → AreSame xs ys → Fails (AreAnyIn xs new) (AreAnyIn xs new) u v → Fails (AreAnyIn ys new) (AreAnyIn ys new) u v
fails_in_same xs ys new u v same s = grind arith
