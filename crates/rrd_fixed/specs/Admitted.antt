-- Definition: the values that a data source accepts, and the raw values for them (rrdcreate, "DS"; the ranges are this
-- project's).
use Rattle.std.specs.Prelude.{◌-◌, ◌^◌, ◌&&◌, ℤ, pos, neg_ℤ, int_le, unsigned_abs, nat_lt, not, Bool, if◌then◌else◌, Option, Some, None, option_and_then}
use Rattle.std.specs.Int.{int_rem_euclid}
use Rattle.std.specs.Ordering.{int_eq}
use Rattle.rrd_fixed.specs.declared.kind.Kind.{Kind}
use Rattle.rrd_fixed.specs.declared.kind.Kind.TheVariants.{Gauge, Counter, Derive, Absolute}
use Rattle.rrd_fixed.specs.declared.number.Number.{Number}
use Rattle.rrd_fixed.specs.Rounding.{floor_of}

-- the value, if it is from `low` to `high`
abbrev pub in_range : ℤ → ℤ → ℤ → Option ℤ
in_range low high value = if int_le low value then (if int_le value high then Some value else None) else None

-- a number below 10^18 in size, kept in millionths
abbrev pub in_millionths : ℤ → Option ℤ
in_millionths millionths = if nat_lt (unsigned_abs millionths) (10 ^ 24) then Some millionths else None

-- whether millionths are a whole number of units
abbrev pub is_whole : ℤ → Bool
is_whole millionths = int_eq (int_rem_euclid millionths (pos (10 ^ 6))) (pos 0)

-- the units of a number without a point that is a whole number of units
abbrev pub units_of : Number → Option ℤ
units_of number =
    if not number.point && is_whole number.millionths
    then Some (floor_of number.millionths (pos (10 ^ 6)))
    else None

-- a whole number of units from `low` to `high`, kept in units
abbrev pub in_units : ℤ → ℤ → Number → Option ℤ
in_units low high number = option_and_then (in_range low high) (units_of number)

-- the raw value of a number; `None` if a data source of this type does not accept the number
abbrev pub admit : Kind → Number → Option ℤ
admit Gauge number = in_millionths number.millionths
admit Absolute number = in_millionths number.millionths
admit Counter number = in_units (pos 0) (pos (2 ^ 64 - 1)) number
admit Derive number = in_units (neg_ℤ (pos (2 ^ 63))) (pos (2 ^ 63 - 1)) number
