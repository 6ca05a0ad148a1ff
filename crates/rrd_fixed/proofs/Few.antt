-- A text by the digits that it begins with.
use Rattle.rrd_fixed.proofs.Names.{◌≡◌, ◌∙◌, sym, ap, refl, ℕ, suc, ◌+◌, ◌*◌, ◌^◌, ◌<◌, ◌≤◌, ◌&&◌, ◌++◌, ◌∷◌, [], pos, List, Bool, Option, if◌then◌else◌, true, false, Some, None, nat_lt, nat_le, length, take, drop, slice_index, option_map, arith, inl, inr, cases_Bool, eqb-true, common_steps, drop_more, length-take-le, take-append-drop, list_all-append, is_ascii_digit, list_all, position_or_len, before_first, are_digits, fraction_of, is_point, plain_of, pointed_of, unsigned_of, value_of, Number}
use Rattle.rrd_fixed.proofs.ReadBack.{cut_before, cut_behind, fit_digits, has_point, no_point}

and_false : (x : Bool) → (x && false) ≡ false
and_false true = refl
and_false false = refl

-- other bytes than digits are no number
pointed_none : (whole fraction : List ℕ) → list_all is_ascii_digit whole ≡ false → pointed_of whole fraction ≡ None
pointed_none whole fraction bad = rw (bad, and_false (nat_lt 0 (length whole) && nat_le (length whole) 20)) refl

plain_none : (digits : List ℕ) → list_all is_ascii_digit digits ≡ false → plain_of digits ≡ None
plain_none digits bad = rw (bad, and_false (nat_lt 0 (length digits) && nat_le (length digits) 20)) refl

before_cons : (x : ℕ) (xs : List ℕ) → is_point x ≡ false → before_first is_point (x ∷ xs) ≡ x ∷ before_first is_point xs
before_cons x xs other = rw other (ap (λ k. take k (x ∷ xs)) {x = 1 + position_or_len is_point xs} {y = suc (position_or_len is_point xs)} (omega arith))

bad_front : (ds : List ℕ) (b : ℕ) (rest : List ℕ) → list_all is_ascii_digit ds ≡ true → is_point b ≡ false → is_ascii_digit b ≡ false
    → list_all is_ascii_digit (before_first is_point (ds ++ b ∷ rest)) ≡ false
bad_front [] b rest h other bad = ap (list_all is_ascii_digit) (before_cons b rest other) ∙ ap (λ v. v && list_all is_ascii_digit (before_first is_point rest)) bad
bad_front (d ∷ ds) b rest h other bad = grind (arith, common_steps, before_cons d (ds ++ b ∷ rest), bad_front ds b rest, and_false (is_ascii_digit d))

bad_all : (ds : List ℕ) (b : ℕ) (rest : List ℕ) → is_ascii_digit b ≡ false → list_all is_ascii_digit (ds ++ b ∷ rest) ≡ false
bad_all ds b rest bad = list_all-append is_ascii_digit ds (b ∷ rest) ∙ (ap (λ v. list_all is_ascii_digit ds && (v && list_all is_ascii_digit rest)) bad ∙ and_false (list_all is_ascii_digit ds))

other_none : (ds : List ℕ) (b : ℕ) (rest : List ℕ) → list_all is_ascii_digit ds ≡ true → is_point b ≡ false → is_ascii_digit b ≡ false → unsigned_of (ds ++ b ∷ rest) ≡ None
unfolding unsigned_of
other_none ds b rest h other bad = grind (arith, common_steps, pointed_none, bad_front, plain_none, bad_all)

point_none : (rest : List ℕ) → unsigned_of (46 ∷ rest) ≡ None
unfolding unsigned_of
point_none rest = refl

-- a text that begins with no digit is no number
pub none_few : (xs : List ℕ) → (0 < length xs → is_ascii_digit (slice_index xs 0) ≡ false) → unsigned_of xs ≡ None
unfolding unsigned_of
none_few [] h = refl
none_few (x ∷ xs) h = elim (cases_Bool (is_point x)) [
  | inl is ↦ let point : x ≡ 46 = eqb-true x 46 is in ap (λ b. unsigned_of (b ∷ xs)) point ∙ point_none xs
  | inr other ↦ other_none [] x xs refl other (h (omega arith))
]

-- digits alone
pub plain_few : (xs : List ℕ) → 0 < length xs → length xs ≤ 19 → list_all is_ascii_digit xs ≡ true → unsigned_of xs ≡ Some (record { millionths = pos (value_of xs * 10 ^ 6); point = false })
unfolding unsigned_of
plain_few xs some few digits = rw (no_point xs digits, fit_digits 20 xs some (omega arith) digits) refl

parts : (xs : List ℕ) (at : ℕ) → at < length xs → xs ≡ take at xs ++ slice_index xs at ∷ drop (at + 1) xs
parts xs at inside = sym (take-append-drop at xs) ∙ ap (λ l. take at xs ++ l) (drop_more xs at 0 inside)

-- digits, and another byte than a point
pub other_few : (xs : List ℕ) (at : ℕ) → at < length xs → list_all is_ascii_digit (take at xs) ≡ true → is_point (slice_index xs at) ≡ false → is_ascii_digit (slice_index xs at) ≡ false → unsigned_of xs ≡ None
other_few xs at inside h other bad = ap unsigned_of (parts xs at inside) ∙ other_none (take at xs) (slice_index xs at) (drop (at + 1) xs) h other bad

pointed_cut : (ds rest : List ℕ) → list_all is_ascii_digit ds ≡ true → unsigned_of (ds ++ 46 ∷ rest) ≡ pointed_of ds rest
unfolding unsigned_of
pointed_cut ds rest h = rw (has_point ds rest, cut_before ds rest h, cut_behind ds rest h) refl

abbrev pub number : ℕ → Bool → Number
number millionths point = record { millionths = pos millionths; point = point }

either : (w : ℕ) (v : Bool) (m : ℕ) → (if v then Some (number (w + m) true) else None) ≡ option_map (λ k. number (w + k) true) (if v then Some m else None)
either w true m = refl
either w false m = refl

pointed_value : (ds rest : List ℕ) (f : Option ℕ) → are_digits 20 ds ≡ true → f ≡ (if are_digits 6 rest then Some (fraction_of rest) else None)
    → pointed_of ds rest ≡ option_map (λ m. number (value_of ds * 10 ^ 6 + m) true) f
pointed_value ds rest f fits e = rw (fits, e) (either (value_of ds * 10 ^ 6) (are_digits 6 rest) (fraction_of rest))

-- digits, a point and what is read behind it
pub pointed_few : (xs : List ℕ) (at : ℕ) (f : Option ℕ) → 0 < at → at < length xs → length xs ≤ 19 → list_all is_ascii_digit (take at xs) ≡ true → slice_index xs at ≡ 46
    → f ≡ (if are_digits 6 (drop (at + 1) xs) then Some (fraction_of (drop (at + 1) xs)) else None)
    → unsigned_of xs ≡ option_map (λ m. number (value_of (take at xs) * 10 ^ 6 + m) true) f
pointed_few xs at f some inside few digits point e = grind (arith, common_steps, length-take-le, fit_digits 20 (take at xs), parts xs, pointed_cut (take at xs) (drop (at + 1) xs) digits, pointed_value (take at xs) (drop (at + 1) xs) f)
