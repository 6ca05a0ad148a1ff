-- Definition: the rate of an interval, in whole millionths (rrdcreate, "DS"; ties are this project's rule).
use Rattle.std.specs.Prelude.{ℕ, ◌-◌, ◌*◌, ◌^◌, ◌<◌, ◌≤◌, ℤ, pos, ◌+ℤ◌, ◌-ℤ◌, ◌*ℤ◌, ◌≤ℤ◌, ◌<ℤ◌, neg_ℤ, int_lt, unsigned_abs, nat_lt, Bool, if◌then◌else◌, Option, Some, None}
use Rattle.rrd_fixed.specs.Rounding.{near}
use Rattle.rrd_fixed.specs.declared.cell.Cell.{Cell}
use Rattle.rrd_fixed.specs.declared.raw.Raw.{Raw}
use Rattle.rrd_fixed.specs.declared.kind.Kind.{Kind}
use Rattle.rrd_fixed.specs.declared.kind.Kind.TheVariants.{Gauge, Counter, Derive, Absolute}

-- the maximum size of a rate, a cell or a bound
abbrev pub top : ℕ
top = (2 ^ 64 - 1) * 10 ^ 6

-- the number, with `by` added if it is negative
abbrev pub raised_if_negative : ℤ → ℤ → ℤ
raised_if_negative by z = if int_lt z (pos 0) then z +ℤ by else z

-- the increase of a counter. A counter that fell has wrapped: at 2 ^ 32 if adding 2 ^ 32 makes the increase positive or
-- 0, otherwise at 2 ^ 64
abbrev pub rise : ℤ → ℤ → ℤ
rise old new = raised_if_negative (pos (2 ^ 64) -ℤ pos (2 ^ 32)) (raised_if_negative (pos (2 ^ 32)) (new -ℤ old))

-- the rate before the heartbeat and the bounds are checked
abbrev pub plain_rate : Kind → Raw → Raw → ℕ → Cell
plain_rate kind old Raw.Unknown interval = Cell.Unknown
plain_rate Gauge old (Raw.Known new) interval = Cell.Known new
plain_rate Absolute old (Raw.Known new) interval = Cell.Known (near new (pos interval))
plain_rate Counter (Raw.Known old) (Raw.Known new) interval =
    Cell.Known (near (rise old new *ℤ pos (10 ^ 6)) (pos interval))
plain_rate Derive (Raw.Known old) (Raw.Known new) interval =
    Cell.Known (near ((new -ℤ old) *ℤ pos (10 ^ 6)) (pos interval))
plain_rate Counter Raw.Unknown (Raw.Known new) interval = Cell.Unknown
plain_rate Derive Raw.Unknown (Raw.Known new) interval = Cell.Unknown

-- whether a rate is below a lower bound, or above an upper bound
abbrev pub is_under : ℤ → Option ℤ → Bool
is_under rate None = Bool.false
is_under rate (Some low) = int_lt rate low

abbrev pub is_over : ℤ → Option ℤ → Bool
is_over rate None = Bool.false
is_over rate (Some high) = int_lt high rate

-- a rate outside its bounds is unknown
abbrev pub within : ℤ → Option ℤ → Option ℤ → Cell
within rate min max =
    if is_under rate min then Cell.Unknown
    else (if is_over rate max then Cell.Unknown else Cell.Known rate)

abbrev pub cell_within : Option ℤ → Option ℤ → Cell → Cell
cell_within min max Cell.Unknown = Cell.Unknown
cell_within min max (Cell.Known rate) = within rate min max

-- the rate of an interval
abbrev pub rate : Kind → Raw → Raw → ℕ → ℕ → Option ℤ → Option ℤ → Cell
rate kind old new interval heartbeat min max =
    if nat_lt heartbeat interval then Cell.Unknown
    else cell_within min max (plain_rate kind old new interval)

-- a raw value that a data source of this type accepts
abbrev pub IsAccepted : Kind → Raw → Type 0
IsAccepted kind Raw.Unknown = Unit {0}
IsAccepted Counter (Raw.Known value) = (pos 0 ≤ℤ value) × (value <ℤ pos (2 ^ 64))
IsAccepted Derive (Raw.Known value) = (neg_ℤ (pos (2 ^ 63)) ≤ℤ value) × (value <ℤ pos (2 ^ 63))
IsAccepted Gauge (Raw.Known value) = unsigned_abs value < 10 ^ 24
IsAccepted Absolute (Raw.Known value) = unsigned_abs value < 10 ^ 24

-- a cell from -TOP to TOP
abbrev pub IsBounded : Cell → Type 0
IsBounded Cell.Unknown = Unit {0}
IsBounded (Cell.Known value) = unsigned_abs value ≤ top
