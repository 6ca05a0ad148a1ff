-- What a search for a byte says of the bytes before it.
use Rattle.std.specs.Prelude.{◌≡◌, ◌+◌, ◌-◌, ◌<◌, ◌++◌, ◌∷◌, [], ℕ, zero, suc, Bool, true, false, List, Some, None, length, take, drop, slice_index}
use Rattle.rrd_tool.proofs.Names.{◌∙◌, get_or, sym, ap, refl, arith, eqb-true, take-add, drop_more, take-append-drop, take_all, take_more, list_any, IsFirstByte, is_byte}

not_true : (b : Bool) → ¬ (b ≡ true) → b ≡ false
not_true true h = absurd (h refl)
not_true false h = refl

none_before : (test : ℕ → Bool) (xs : List ℕ) (n : ℕ) → ((k : ℕ) → k < n → ¬ (test (slice_index xs k) ≡ true)) → list_any test (take n xs) ≡ false
none_before test xs zero h = refl
none_before test [] (suc n) h = refl
none_before test (x ∷ xs) (suc n) h =
    let first : test x ≡ false = not_true (test x) (h 0 (omega arith)) in
    rw (first, none_before test xs n (λ k less. h (suc k) (omega (arith, less)))) refl

-- no byte before the one that is found passes
pub found_first : (test : ℕ → Bool) (xs : List ℕ) (at : ℕ) → IsFirstByte test xs (Some at) → list_any test (take at xs) ≡ false
found_first test xs at h = none_before test xs at (λ k less. h.0.before k (omega arith) less)

-- none passes where none is found
pub found_none : (test : ℕ → Bool) (xs : List ℕ) → IsFirstByte test xs None → list_any test xs ≡ false
found_none test xs h = ap (list_any test) (sym (take_all (length xs) xs (omega arith))) ∙ none_before test xs (length xs) (λ k less. h k (omega arith) less)

-- the bytes before the one that is found, it, and those after it
pub found_parts : (test : ℕ → Bool) (xs : List ℕ) (at : ℕ) → IsFirstByte test xs (Some at) → xs ≡ take at xs ++ slice_index xs at ∷ drop (at + 1) xs
found_parts test xs at h = sym (take-append-drop at xs) ∙ ap (λ l. take at xs ++ l) (drop_more xs at 0 h.0.high)

-- the bytes up to the next LF and it
pub found_line : (bytes : List ℕ) (from n : ℕ) → IsFirstByte (is_byte 10) (drop from bytes) (Some n)
    → take (from + (n + 1)) bytes ≡ take from bytes ++ (take (from + n - from) (drop from bytes) ++ 10 ∷ [])
found_line bytes from n found =
    let rest = drop from bytes in
    let same : n ≡ from + n - from = omega arith in
    let end : get_or rest n 0 ≡ 10 = eqb-true (get_or rest n 0) 10 found.1 in
    take-add from (n + 1) bytes ∙ ap (λ l. take from bytes ++ l) (take_more rest n 0 found.0.high ∙ (ap (λ b. take n rest ++ b ∷ []) end ∙ ap (λ k. take k rest ++ 10 ∷ []) same))

pub line_inner : (bytes : List ℕ) (from n : ℕ) → IsFirstByte (is_byte 10) (drop from bytes) (Some n) → list_any (is_byte 10) (take (from + n - from) (drop from bytes)) ≡ false
line_inner bytes from n found =
    let same : from + n - from ≡ n = omega arith in
    ap (λ k. list_any (is_byte 10) (take k (drop from bytes))) same ∙ found_first (is_byte 10) (drop from bytes) n found
