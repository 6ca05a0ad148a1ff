-- The value of digits.
use Rattle.rrd_fixed.proofs.Names.{◌≡◌, sym, ℕ, ◌+◌, ◌-◌, ◌*◌, ◌^◌, ◌<◌, ◌≤◌, List, [], ◌∷◌, ◌++◌, true, length, arith, lit<, take, get_or, pow-suc, pow-le-pow_right, mul-le-mul_right, one-le-pow, pow-add, take_more, take_all, common_steps, is_ascii_digit, list_all, value_of}

times_ten : (digit power value more all : ℕ) → all ≡ 10 * value + more → digit * (power * 10) + all ≡ 10 * (digit * power + value) + more
times_ten digit power value more all e = rw e (omega arith)

-- one more digit
pub value-push : (xs : List ℕ) (d : ℕ) → value_of (xs ++ d ∷ []) ≡ 10 * value_of xs + (d - 48)
value-push [] d = omega arith
value-push (x ∷ xs) d = grind (arith, common_steps, pow-suc 10 (length xs), times_ten (x - 48) (10 ^ length xs) (value_of xs) (d - 48) (value_of (xs ++ d ∷ [])) (value-push xs d), value-push xs d)

below_next : (digit power value : ℕ) → digit ≤ 9 → value < power → digit * power + value < power * 10
below_next digit power value small below = grind (arith, common_steps, mul-le-mul_right)

-- n digits stay below 10 ^ n
pub value_below : (xs : List ℕ) → list_all is_ascii_digit xs ≡ true → value_of xs < 10 ^ length xs
value_below [] h = lit< tt
value_below (x ∷ xs) h = grind (arith, common_steps, pow-suc 10 (length xs), below_next (x - 48) (10 ^ length xs) (value_of xs), value_below xs)

-- n digits stay below 10 ^ m if n is at most m
pub below_power : (n m value : ℕ) → n ≤ m → value < 10 ^ n → value < 10 ^ m
below_power n m value le h = grind (arith, common_steps, pow-le-pow_right)

-- the digits up to the one at i
pub value_before : (xs : List ℕ) (i m : ℕ) → list_all is_ascii_digit (take i xs) ≡ true → i < length xs → length xs ≤ m + 1 → value_of (take i xs) < 10 ^ m
value_before xs i m digits inside short = grind (arith, common_steps, below_power (length (take i xs)) m (value_of (take i xs)), value_below (take i xs) digits)

pub value_more : (xs : List ℕ) (i : ℕ) → i < length xs → value_of (take (i + 1) xs) ≡ 10 * value_of (take i xs) + (get_or xs i 0 - 48)
value_more xs i inside = rw (take_more xs i 0 inside) (value-push (take i xs) (get_or xs i 0))

pub value_all : (xs : List ℕ) (i : ℕ) → length xs ≤ i → list_all is_ascii_digit (take i xs) ≡ true → value_of (take i xs) < 10 ^ length xs
value_all xs i past digits = rw (take_all i xs past) (value_below xs (rw (take_all i xs past) at digits))

-- up to six digits, with the zeros behind them, stay below 10 ^ 6
pub fraction_below : (n value : ℕ) → n ≤ 6 → value < 10 ^ n → value * 10 ^ (6 - n) < 10 ^ 6
fraction_below n value le below =
    let parts : 10 ^ n * 10 ^ (6 - n) ≡ 10 ^ (n + (6 - n)) = sym (pow-add 10 n (6 - n)) in
    let some : 0 < 10 ^ (6 - n) = one-le-pow (6 - n) 10 (lit< tt) in
    grind (arith, common_steps)
