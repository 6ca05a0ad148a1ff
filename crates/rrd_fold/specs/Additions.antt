-- Law: at most two additions of equal cells make any valid count and value: some of the higher cell, the rest of the
-- lower.
use Rattle.std.specs.Prelude.{◌≡◌, ℕ, ◌-◌, ◌<◌, ◌==◌, if◌then◌else◌, ℤ, pos, ◌+ℤ◌, unsigned_abs, replicate}
use Rattle.std.specs.Int.{int_rem_euclid}
use Rattle.std.specs.List.{fold}
use Rattle.rrd_fixed.specs.declared.cell.Cell.TheVariants.{Known}
use Rattle.rrd_fixed.specs.Rounding.{floor_of}
use Rattle.rrd_fold.specs.declared.function.Function.{Function}
use Rattle.rrd_fold.specs.declared.function.Function.TheVariants.{Average, Min, Max, Last}
use Rattle.rrd_fold.specs.Parts.{with_cell, nothing}
use Rattle.rrd_fold.specs.Bounds.{IsBounded}

-- the lower cell: for AVERAGE and for the sum of a step, the value shared out among the known cells, rounded down
abbrev pub lower : Function → ℕ → ℤ → ℤ
lower Average known sum = floor_of sum (pos known)
lower Min known value = value
lower Max known value = value
lower Last known value = value

-- the number of cells that are one millionth higher, so that the sum is exact
abbrev pub left_over : Function → ℕ → ℤ → ℕ
left_over Average known sum = unsigned_abs (int_rem_euclid sum (pos known))
left_over Min known value = 0
left_over Max known value = 0
left_over Last known value = 0

-- the higher cell; equal to the lower one if none is higher
abbrev pub higher : Function → ℕ → ℤ → ℤ
higher function known value =
    if left_over function known value == 0
    then lower function known value
    else lower function known value +ℤ pos 1

-- both cells may be added, and the two additions make the count and the value
pub record MadeByTwo (function : Function) (known : ℕ) (value : ℤ) : Type 0 where
  pub few : left_over function known value < known
  pub lower_bounded : IsBounded (Known (lower function known value))
  pub higher_bounded : IsBounded (Known (higher function known value))
  pub made :
      fold (with_cell function)
      (fold (with_cell function) nothing
      (replicate (left_over function known value) (Known (higher function known value))))
      (replicate (known - left_over function known value) (Known (lower function known value)))
      ≡ record { known = known; value = value }
