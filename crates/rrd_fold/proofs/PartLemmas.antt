-- Cells added one by one, and the whole list.
use Rattle.std.proofs.lemmas.Grind.{common_steps}
use Rattle.rrd_fold.proofs.Names.{◌≡◌, refl, ap, ℕ, zero, suc, ◌+◌, ◌-◌, ◌*◌, ◌<◌, ◌≤◌, ℤ, pos, ◌+ℤ◌, List, [], ◌∷◌, ◌++◌, length, cond, nat_lt, if◌then◌else◌, arith, ints, ne_eqb, mul-le, fold-append, fold, int_min, int_max, Cell, Unknown, Known, Function, Average, Min, Max, Last, nothing, with_value, with_cell, values, summary, part_of, row_cell, finished_cell}
use Rattle.rrd_fold.proofs.Sums.{part}

-- how one more value goes into those that there are
abbrev into : Function → ℤ → ℤ → ℤ
into Average value new = value +ℤ new
into Min value new = int_min value new
into Max value new = int_max value new
into Last value new = new

pub goes_in : (function : Function) (k : ℕ) (value new : ℤ) → with_value function (k + 1) value new ≡ into function value new
goes_in Average k value new = refl
goes_in Min k value new = ap (λ b. cond b new (int_min value new)) (ne_eqb (k + 1) 0 (λ e. absurd (omega arith)))
goes_in Max k value new = ap (λ b. cond b new (int_max value new)) (ne_eqb (k + 1) 0 (λ e. absurd (omega arith)))
goes_in Last k value new = refl

more : (function : Function) (k : ℕ) (value : ℤ) (cells : List Cell) → fold (with_cell function) (part (k + 1) value) cells ≡ part (k + 1 + length (values cells)) (fold (into function) value (values cells))
unfolding part
more function k value [] = ap (λ n. part n value) {x = k + 1} {y = k + 1 + 0} (omega arith)
more function k value (Unknown ∷ cells) = more function k value cells
more function k value (Known new ∷ cells) = grind (arith, common_steps, goes_in function k value new, more function (k + 1) (into function value new) cells)

pub first : (function : Function) (new : ℤ) → with_value function 0 (pos 0) new ≡ new
first Average new = omega (arith, ints)
first Min new = refl
first Max new = refl
first Last new = refl

whole : (function : Function) (value : ℤ) (vs : List ℤ) → fold (into function) value vs ≡ summary function (value ∷ vs)
whole Average value vs = refl
whole Min value vs = refl
whole Max value vs = refl
whole Last value vs = refl

pub fold-with_cell : (function : Function) (cells : List Cell) → fold (with_cell function) nothing cells ≡ part_of function cells
unfolding part
fold-with_cell function [] = refl
fold-with_cell function (Unknown ∷ cells) = fold-with_cell function cells
fold-with_cell function (Known new ∷ cells) = grind (arith, common_steps, first function new, more function 0 new cells, whole function new (values cells))

-- cells that are added to a part that stands for a list
pub stands_more : (function : Function) (cells more : List Cell) → fold (with_cell function) (part_of function cells) more ≡ part_of function (cells ++ more)
stands_more function cells more = grind (arith, common_steps, more, fold-with_cell function cells, fold-append (with_cell function) nothing cells more, fold-with_cell function (cells ++ more))

-- the rule of xff, where the count is known to be 0 or not
pub row_finishes : (function : Function) (xff steps known : ℕ) (value : ℤ) → 1 ≤ steps → xff < 1000000 → row_cell function (pos xff) steps (part known value) ≡ (if nat_lt (xff * steps) ((steps - known) * 1000000) then Unknown else finished_cell function (part known value))
unfolding part
row_finishes function xff steps zero value some small = grind (arith, common_steps, mul-le xff steps 999999 steps)
row_finishes function xff steps (suc k) value some small = grind (arith, common_steps, ne_eqb)
