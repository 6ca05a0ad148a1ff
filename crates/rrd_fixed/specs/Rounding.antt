-- Definition: rounding to whole millionths (this project's rule).
use Rattle.std.specs.Prelude.{ℤ, pos, ◌+ℤ◌, ◌*ℤ◌}
use Rattle.std.specs.Int.{int_div_euclid}

-- a / b, rounded down
abbrev pub floor_of : ℤ → ℤ → ℤ
floor_of a b = int_div_euclid a b

-- a / b, rounded to the nearest whole number; a half rounds up
abbrev pub near : ℤ → ℤ → ℤ
near a b = floor_of (pos 2 *ℤ a +ℤ b) (pos 2 *ℤ b)
