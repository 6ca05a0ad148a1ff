-- What is written is read back.
use Rattle.rrd_fixed.proofs.Names.{◌≡◌, ◌∙◌, refl, ℕ, zero, suc, ◌+◌, ◌-◌, ◌*◌, ◌/◌, ◌%◌, ◌^◌, ◌<◌, ◌≤◌, ℤ, pos, negsuc, ◌*ℤ◌, unsigned_abs, List, [], ◌∷◌, ◌++◌, Bool, true, false, Some, length, decimal, codes, arith, length-append, append_assoc, append-nil, add-one, neg_ℤ, option_map, or-true, take-append_seam, drop-append-add, lt-ltb, decimal_by_steps_wide, length-decimal-le_wide, common_steps, list_all-append, list_any-append, is_ascii_digit, list_all, list_any, position_or_len, before_first, after_first, repeat, are_digits, fraction_of, is_point, negated, number_of, unsigned_of, value_of, whole_of, millionths_text, signed_text, six_digits, whole_text, Number}
use Rattle.rrd_fixed.proofs.Digits.{value-push}

-- some digits of the value n
pub record Digits (n : ℕ) (ds : List ℕ) : Type 0 where
  pub digits : list_all is_ascii_digit ds ≡ true
  pub value : value_of ds ≡ n
  pub some : 0 < length ds

one_digit : (n : ℕ) → n < 10 → Digits n ((48 + n) ∷ [])
one_digit n small = grind (arith, common_steps)

more_digits : (n : ℕ) (ds : List ℕ) → 10 ≤ n → Digits (n / 10) ds → Digits n (ds ++ ((48 + n % 10) ∷ []))
more_digits n ds many front = grind (arith, common_steps, list_all-append, value-push, length-append)

pub decimal_digits : (n : ℕ) → n < 10 ^ 64 → Digits n (decimal n)
decimal_digits n small = decimal_by_steps_wide Digits one_digit more_digits n small

-- so many digits at most
pub fit_digits : (most : ℕ) (ds : List ℕ) → 0 < length ds → length ds ≤ most → list_all is_ascii_digit ds ≡ true → are_digits most ds ≡ true
fit_digits most ds some short digits = grind (arith, common_steps, lt-ltb)

decimal_fits : (n : ℕ) → n < 10 ^ 20 → are_digits 20 (decimal n) ≡ true
decimal_fits n small = grind (arith, common_steps, decimal_digits n, fit_digits 20 (decimal n), length-decimal-le_wide 20 n)

pub whole_back : (n : ℕ) → n < 2 ^ 64 → whole_of (decimal n) ≡ Some n
unfolding whole_of
whole_back n small = grind (arith, common_steps, decimal_digits, lt-ltb, decimal_fits)

-- where digits end and a point stands, a text is cut
cut_place : (ds rest : List ℕ) → list_all is_ascii_digit ds ≡ true → position_or_len is_point (ds ++ 46 ∷ rest) ≡ length ds
cut_place [] rest h = refl
cut_place (d ∷ ds) rest h = grind (arith, common_steps, cut_place ds rest)

pub cut_before : (ds rest : List ℕ) → list_all is_ascii_digit ds ≡ true → before_first is_point (ds ++ 46 ∷ rest) ≡ ds
cut_before ds rest h = rw (cut_place ds rest h) (take-append_seam ds (46 ∷ rest))

pub cut_behind : (ds rest : List ℕ) → list_all is_ascii_digit ds ≡ true → after_first is_point (ds ++ 46 ∷ rest) ≡ rest
cut_behind ds rest h = rw (cut_place ds rest h) (drop-append-add ds (46 ∷ rest) 1)

pub has_point : (ds rest : List ℕ) → list_any is_point (ds ++ 46 ∷ rest) ≡ true
has_point ds rest = rw (list_any-append is_point ds (46 ∷ rest)) (or-true (list_any is_point ds))

pub no_point : (ds : List ℕ) → list_all is_ascii_digit ds ≡ true → list_any is_point ds ≡ false
no_point [] h = refl
no_point (d ∷ ds) h = grind (arith, common_steps, no_point ds)

-- zeros before digits
zeros_digits : (k n : ℕ) (ds : List ℕ) → Digits n ds → Digits n (repeat k (codes "0") ++ ds)
zeros_digits zero n ds h = h
zeros_digits (suc k) n ds h = grind (arith, common_steps, zeros_digits k n ds h)

zeros_length : (k : ℕ) (ds : List ℕ) → length (repeat k (codes "0") ++ ds) ≡ k + length ds
zeros_length zero ds = omega arith
zeros_length (suc k) ds = let rest = zeros_length k ds in omega arith

-- the six digits of a fraction
six_length : (f : ℕ) → f < 10 ^ 6 → length (six_digits f) ≡ 6
six_length f small = grind (arith, common_steps, length-decimal-le_wide, zeros_length)

six_fraction : (f : ℕ) → f < 10 ^ 6 → (are_digits 6 (six_digits f) ≡ true) × (fraction_of (six_digits f) ≡ f)
six_fraction f small = grind (arith, common_steps, zeros_digits (6 - length (decimal f)) f (decimal f), decimal_digits f, six_length f small, fit_digits 6 (six_digits f))

unsigned_whole : (n : ℕ) → n < 10 ^ 20 → unsigned_of (decimal n) ≡ Some (record { millionths = pos (n * 10 ^ 6); point = false })
unfolding unsigned_of
unsigned_whole n small = grind (arith, common_steps, decimal_digits, no_point, decimal_fits)

unsigned_pointed : (w f : ℕ) (ds fs : List ℕ) → Digits w ds → are_digits 20 ds ≡ true → are_digits 6 fs ≡ true → fraction_of fs ≡ f
    → unsigned_of (ds ++ 46 ∷ fs) ≡ Some (record { millionths = pos (w * 10 ^ 6 + f); point = true })
unfolding unsigned_of
unsigned_pointed w f ds fs is fits fraction value = grind (arith, common_steps, has_point, cut_before, cut_behind)

-- a text that begins with a digit has no sign
unsigned_first : (n : ℕ) (ds rest : List ℕ) → Digits n ds → number_of (ds ++ rest) ≡ unsigned_of (ds ++ rest)
unfolding number_of
unsigned_first n [] rest is = absurd (omega (arith, is.some))
unsigned_first n (d ∷ ds) rest is = grind (arith, common_steps)

minus_first : (text : List ℕ) → number_of (codes "-" ++ text) ≡ option_map negated (unsigned_of text)
unfolding number_of
minus_first text = refl

as_cut : (n : ℕ) → millionths_text n ≡ decimal (n / 1000000) ++ 46 ∷ six_digits (n % 1000000)
as_cut n = append_assoc (decimal (n / 1000000)) (codes ".") (six_digits (n % 1000000))

abbrev number : ℕ → Bool → Number
number m point = record { millionths = pos m; point = point }

unsigned_back : (n : ℕ) → n < 10 ^ 26 → unsigned_of (millionths_text n) ≡ Some (record { millionths = pos n; point = true })
unsigned_back n small = grind (arith, common_steps, decimal_digits, six_fraction, unsigned_pointed, decimal_fits, as_cut)

abbrev signed : ℤ → Bool → Number
signed m point = record { millionths = m; point = point }

pub number_back : (z : ℤ) → unsigned_abs z < 10 ^ 26 → number_of (signed_text z) ≡ Some (record { millionths = z; point = true })
number_back (pos n) small = grind (arith, common_steps, decimal_digits (n / 1000000), as_cut n, unsigned_first (n / 1000000) (decimal (n / 1000000)) (46 ∷ six_digits (n % 1000000)), unsigned_back n small)
number_back (negsuc n) small = grind (arith, common_steps, neg_ℤ, add-one, unsigned_back, minus_first)

pub units_back : (z : ℤ) → unsigned_abs z < 10 ^ 20 → number_of (whole_text z) ≡ Some (record { millionths = z *ℤ pos (10 ^ 6); point = false })
units_back (pos n) small =
    let is = decimal_digits n (omega arith) in
    (rw append-nil at (unsigned_first n (decimal n) [] is)) ∙ unsigned_whole n small
units_back (negsuc n) small = grind (arith, common_steps, neg_ℤ, add-one, unsigned_whole, minus_first)
