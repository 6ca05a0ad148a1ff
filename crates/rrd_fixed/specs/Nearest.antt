-- Law: the nearest whole number is no larger than a bound on the quotient.
use Rattle.std.specs.Prelude.{ℕ, zero, suc, ◌+◌, ◌-◌, ◌*◌, ◌<◌, ◌≤◌, ltb, ℤ, pos, negsuc, ◌+ℤ◌, neg_ℤ, unsigned_abs}
use Rattle.std.specs.Int.{int_div_euclid}
use Rattle.std.proofs.Common.{◌∙◌, sym, subst, lit<, zero-le, suc-le-suc}
use Rattle.std.proofs.Math.Nat.{le_trans, lt_of_le_of_lt, le_of_suc-le-suc, sub-le, suc-sub-suc, zero-add, one-mul, mul_assoc, mul_comm, suc-mul, mul-le-mul_left, mul-lt-mul_of_pos_right, add-lt-add_of_le_of_lt, div-eq_of_lt, div-lt_iff_lt-mul}
use Rattle.std.proofs.lemmas.Bool.{cond_both}
use Rattle.rrd_fixed.specs.Rounding.{near}

below_twice : (b : ℕ) → 0 < b → b < 2 * b
below_twice b some = subst (λ x. x < 2 * b) (one-mul b) (mul-lt-mul_of_pos_right (lit< tt) some)

some_twice : (b : ℕ) → 0 < b → 0 < 2 * b
some_twice b some = lt_of_le_of_lt zero-le (below_twice b some)

doubled : (n b t : ℕ) → n ≤ b * t → 2 * n ≤ t * (2 * b)
doubled n b t h = subst (λ x. 2 * n ≤ x) (sym (mul_assoc 2 b t) ∙ mul_comm (2 * b) t) (mul-le-mul_left 2 h)

-- a number less than the divisor has the quotient 0
small_quotient : (n d t : ℕ) → n < d → unsigned_abs (int_div_euclid (pos n) (pos d)) ≤ t
small_quotient n d t h = subst (λ q. q ≤ t) (sym (div-eq_of_lt h)) zero-le

-- a number that is not positive: two cases, by whether adding the half makes it positive
minus_limit : (m b t : ℕ) → 0 < b → m ≤ t * (2 * b)
    → unsigned_abs (int_div_euclid (neg_ℤ (pos m) +ℤ pos b) (pos (2 * b))) ≤ t
minus_limit zero b t some h =
    small_quotient (0 + b) (2 * b) t (subst (λ x. x < 2 * b) (sym (zero-add b)) (below_twice b some))
minus_limit (suc k) b t some h =
    cond_both (ltb b (suc k)) (negsuc (suc k - suc b)) (pos (b - suc k))
    (λ z. unsigned_abs (int_div_euclid z (pos (2 * b))) ≤ t)
    (λ e. (div-lt_iff_lt-mul (some_twice b some)).1
    (subst (λ x. x < t * (2 * b)) (sym (suc-sub-suc k b)) (le_trans (suc-le-suc (sub-le k b)) h)))
    (λ e. small_quotient (b - suc k) (2 * b) t (lt_of_le_of_lt (sub-le b (suc k)) (below_twice b some)))

pub near_limit : (a : ℤ) (b t : ℕ) → 0 < b → unsigned_abs a ≤ b * t → unsigned_abs (near a (pos b)) ≤ t
near_limit (pos n) b t some h =
    let high = add-lt-add_of_le_of_lt (doubled n b t h) (below_twice b some) in
    le_of_suc-le-suc ((div-lt_iff_lt-mul (some_twice b some)).1
    (subst (λ x. 2 * n + b < x) (sym (suc-mul t (2 * b))) high))
near_limit (negsuc n) b t some h = minus_limit (2 * suc n) b t some (doubled (suc n) b t h)
