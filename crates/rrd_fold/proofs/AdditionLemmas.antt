-- Counts and values made by at most two additions.
use Rattle.std.proofs.lemmas.Grind.{common_steps}
use Rattle.rrd_fold.proofs.Names.{◌≡◌, refl, ◌∙◌, ap, ℕ, zero, suc, ◌+◌, ◌-◌, ◌*◌, ◌<◌, ◌≤◌, ℤ, pos, negsuc, ◌+ℤ◌, ◌*ℤ◌, unsigned_abs, Bool, true, false, cond, eqb, replicate, arith, ints, cases_lt, ne_eqb, div-add-mod', div_below, mod_below, mul-le, fold, top, floor_of, Known, Function, Average, Min, Max, Last, MadeByTwo, left_over, weight, nothing, with_value, with_cell}
use Rattle.rrd_fold.proofs.PartLemmas.{first, goes_in}
use Rattle.rrd_fold.proofs.Sums.{part, fold_sum}

either_way : (b : Bool) (v : ℤ) → cond b v v ≡ v
either_way true v = refl
either_way false v = refl

-- a value that comes again changes nothing
stays_same : (function : Function) (v : ℤ) → ((k : ℕ) → with_value function (k + 1) v v ≡ v) → (k n : ℕ) → fold (with_cell function) (part (k + 1) v) (replicate n (Known v)) ≡ part (k + 1 + n) v
unfolding part
stays_same function v same k zero = ap (λ m. part m v) {x = k + 1} {y = k + 1 + 0} (omega arith)
stays_same function v same k (suc n) = grind (arith, common_steps, stays_same function v same (k + 1) n)

one_value : (function : Function) (v : ℤ) → ((k : ℕ) → with_value function (k + 1) v v ≡ v) → (known : ℕ) → 1 ≤ known → fold (with_cell function) nothing (replicate known (Known v)) ≡ part known v
unfolding part
one_value function v same zero some = absurd (omega arith)
one_value function v same (suc n) some = grind (arith, common_steps, first function v, stays_same function v same 0 n)

none_left : (function : Function) (v : ℤ) (known : ℕ) → fold (with_cell function) nothing (replicate (known - 0) (Known v)) ≡ fold (with_cell function) nothing (replicate known (Known v))
none_left function v known = ap (λ n. fold (with_cell function) nothing (replicate n (Known v))) {x = known - 0} {y = known} (omega arith)

-- ---- sums: a quotient and what is left over

pub divided : (sum : ℤ) (known : ℕ) → 1 ≤ known → sum ≡ floor_of sum (pos known) *ℤ pos known +ℤ pos (left_over Average known sum)
divided (pos n) known some = omega (arith, ints, div-add-mod' n known)
divided (negsuc n) known some = omega (arith, ints, div-add-mod' n known, mod_below n known some)

left_over_few : (sum : ℤ) (known : ℕ) → 1 ≤ known → left_over Average known sum < known
left_over_few (pos n) known some = mod_below n known some
left_over_few (negsuc n) known some = omega arith

share_bounded : (sum : ℤ) (known t : ℕ) → 1 ≤ known → unsigned_abs sum ≤ known * t → unsigned_abs (floor_of sum (pos known)) ≤ t
share_bounded (pos n) known t some h = grind (arith, common_steps, div_below n known (t + 1) some)
share_bounded (negsuc n) known t some h = grind (arith, common_steps, div_below)

more_bounded : (sum : ℤ) (known t : ℕ) → 1 ≤ known → unsigned_abs sum ≤ known * t → 0 < left_over Average known sum → unsigned_abs (floor_of sum (pos known) +ℤ pos 1) ≤ t
more_bounded (pos n) known t some h over = grind (arith, common_steps, div-add-mod', mul-le, cases_lt)
more_bounded (negsuc n) known t some h over = grind (arith, common_steps, div_below)

some_over : (r : ℕ) → eqb (suc r) 0 ≡ false
some_over r = ne_eqb (suc r) 0 (λ e. absurd (omega arith))

higher_bounded_by : (r : ℕ) (q : ℤ) (t : ℕ) → unsigned_abs q ≤ t → (0 < r → unsigned_abs (q +ℤ pos 1) ≤ t) → unsigned_abs (cond (eqb r 0) q (q +ℤ pos 1)) ≤ t
higher_bounded_by zero q t low high = low
higher_bounded_by (suc r) q t low high = rw (some_over r) (high (omega arith))

one_more_times : (q : ℤ) (n : ℕ) → (q +ℤ pos 1) *ℤ pos n ≡ q *ℤ pos n +ℤ pos n
one_more_times q zero = omega (arith, ints)
one_more_times q (suc n) = omega (arith, ints, one_more_times q n)

higher_times : (r : ℕ) (q : ℤ) → cond (eqb r 0) q (q +ℤ pos 1) *ℤ pos r ≡ q *ℤ pos r +ℤ pos r
higher_times zero q = omega (arith, ints)
higher_times (suc r) q = grind (arith, common_steps, some_over, one_more_times)

both_times : (q high : ℤ) (r d : ℕ) → high *ℤ pos r ≡ q *ℤ pos r +ℤ pos r → (pos 0 +ℤ high *ℤ pos r) +ℤ q *ℤ pos d ≡ q *ℤ pos (r + d) +ℤ pos r
both_times q high r d e = omega (arith, ints, e)

two_sums : (q high sum : ℤ) (r d known : ℕ) → high *ℤ pos r ≡ q *ℤ pos r +ℤ pos r → known ≡ r + d → sum ≡ q *ℤ pos known +ℤ pos r → fold (with_cell Average) (fold (with_cell Average) nothing (replicate r (Known high))) (replicate d (Known q)) ≡ part known sum
unfolding part
two_sums q high sum r d known e whole is = grind (arith, common_steps, fold_sum, both_times)

pub made_by_two : (function : Function) (known : ℕ) (value : ℤ) → 1 ≤ known → unsigned_abs value ≤ weight function known * top → MadeByTwo function known value
unfolding part
made_by_two Average known sum some h = grind (arith, common_steps, left_over_few, share_bounded, higher_bounded_by, more_bounded, two_sums, higher_times, divided)
made_by_two Min known value some h = record { few = some; lower_bounded = omega arith; higher_bounded = omega arith; made = none_left Min value known ∙ one_value Min value (λ k. goes_in Min k value value ∙ either_way _ value) known some }
made_by_two Max known value some h = record { few = some; lower_bounded = omega arith; higher_bounded = omega arith; made = none_left Max value known ∙ one_value Max value (λ k. goes_in Max k value value ∙ either_way _ value) known some }
made_by_two Last known value some h = record { few = some; lower_bounded = omega arith; higher_bounded = omega arith; made = none_left Last value known ∙ one_value Last value (λ k. refl) known some }
