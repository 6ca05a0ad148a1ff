-- What the value of a list of known cells is.
use Rattle.std.proofs.lemmas.Grind.{common_steps}
use Rattle.std.proofs.Common.{rules}
use Rattle.rrd_fold.proofs.Names.{◌≡◌, refl, sym, ◌∙◌, ap, suc, ℤ, ◌+ℤ◌, List, [], ◌∷◌, ◌++◌, arith, ints, fold-int_max_bounds, fold-int_max_reached, fold-int_min_bounds, fold-int_min_reached, All-cons, fold-append, fold, Contains, int_max, Average, Min, Max, Last, summary, IsLeast, IsGreatest}

from_sum : (v w : ℤ) (xs : List ℤ) → fold ◌+ℤ◌ (v +ℤ w) xs ≡ v +ℤ fold ◌+ℤ◌ w xs
from_sum v w [] = refl
from_sum v w (x ∷ xs) = ap (λ s. fold ◌+ℤ◌ s xs) {x = (v +ℤ w) +ℤ x} {y = v +ℤ (w +ℤ x)} (omega (arith, ints)) ∙ from_sum v (w +ℤ x) xs

pub sum_more : (value : ℤ) (more : List ℤ) → summary Average (value ∷ more) ≡ value +ℤ summary Average more
sum_more value [] = omega (arith, ints)
sum_more value (x ∷ xs) = from_sum value x xs

here : (x r : ℤ) (xs : List ℤ) → r ≡ x → Contains (x ∷ xs) r
here x r xs e = (0, omega arith, sym e)

there : (x r : ℤ) (xs : List ℤ) → Contains xs r → Contains (x ∷ xs) r
there x r xs (k, within, is) = (suc k, omega arith, is)

pub least : (value : ℤ) (more : List ℤ) → IsLeast (summary Min (value ∷ more)) (value ∷ more)
least value more = search (rules, fold-int_min_bounds value more, here value, there value, fold-int_min_reached value more, All-cons)

pub greatest : (value : ℤ) (more : List ℤ) → IsGreatest (summary Max (value ∷ more)) (value ∷ more)
greatest value more =
    let r = fold int_max value more in
    let bounds = fold-int_max_bounds value more r refl in
    grind (arith, common_steps, here value r more, there value r more, fold-int_max_reached value more r, All-cons)

pub last : (before : List ℤ) (value : ℤ) → summary Last (before ++ value ∷ []) ≡ value
last [] value = refl
last (x ∷ xs) value = fold-append (λ (a b : ℤ). b) x xs (value ∷ [])
