-- A rate added many times.
use Rattle.std.proofs.lemmas.Grind.{common_steps}
use Rattle.rrd_fold.proofs.Names.{◌≡◌, refl, ℕ, zero, suc, ◌+◌, ◌*◌, ◌≤◌, ℤ, pos, ◌+ℤ◌, ◌*ℤ◌, unsigned_abs, replicate, arith, ints, fold, top, Cell, Unknown, Known, Part, with_cell, Function, Average, IsSum, most_known}

unfoldable pub part : ℕ → ℤ → Part
part known value = record { known = known; value = value }

pub fold_unknown : (function : Function) (p : Part) (n : ℕ) → fold (with_cell function) p (replicate n Unknown) ≡ p
fold_unknown function p zero = refl
fold_unknown function p (suc n) = fold_unknown function p n

pub fold_sum : (p : Part) (rate : ℤ) (n : ℕ) → fold (with_cell Average) p (replicate n (Known rate)) ≡ record { known = p.known + n; value = p.value +ℤ rate *ℤ pos n }
unfolding part
fold_sum p rate zero = grind (arith, common_steps)
fold_sum p rate (suc n) = grind (arith, common_steps, fold_sum (with_cell Average p (Known rate)) rate n)

pub IsSum_more : (known n : ℕ) (sum more : ℤ) → IsSum known sum → known + n ≤ most_known → unsigned_abs more ≤ n * top → IsSum (known + n) (sum +ℤ more)
IsSum_more known n sum more is h bounded = record { few = h; bounded = omega (arith, ints, is.bounded) }

-- what an addition leaves, from the fields before it
pub added : (p : Part) (cell : Cell) (rate more : ℤ) (known n : ℕ) (sum : ℤ) → part known sum ≡ p → cell ≡ Known rate → more ≡ rate *ℤ pos n → part (known + n) (sum +ℤ more) ≡ fold (with_cell Average) p (replicate n cell)
unfolding part
added p cell rate more known n sum view is product = grind (arith, common_steps, fold_sum)
