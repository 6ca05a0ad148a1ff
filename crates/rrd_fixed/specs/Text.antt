-- Definition: times, cells and raw values as text (this project's rule).
use Rattle.std.specs.Prelude.{◌++◌, ℕ, ℤ, List, ◌/◌, ◌%◌, ◌-◌, ◌+◌, decimal, codes, pos, negsuc, length}
use Rattle.std.specs.List.{repeat}
use Rattle.rrd_fixed.specs.declared.cell.Cell.{Cell}
use Rattle.rrd_fixed.specs.declared.raw.Raw.{Raw}
use Rattle.rrd_fixed.specs.declared.kind.Kind.{Kind}
use Rattle.rrd_fixed.specs.declared.kind.Kind.TheVariants.{Gauge, Counter, Derive, Absolute}

-- a number below 1,000,000 in six digits
abbrev pub six_digits : ℕ → List ℕ
six_digits n = repeat (6 - length (decimal n)) (codes "0") ++ decimal n

-- the whole part without leading zeros, a point and six digits
abbrev pub millionths_text : ℕ → List ℕ
millionths_text n = decimal (n / 1000000) ++ codes "." ++ six_digits (n % 1000000)

-- millionths, with a minus below 0
abbrev pub signed_text : ℤ → List ℕ
signed_text (pos n) = millionths_text n
signed_text (negsuc n) = codes "-" ++ millionths_text (n + 1)

-- a whole number without leading zeros, with a minus below 0
abbrev pub whole_text : ℤ → List ℕ
whole_text (pos n) = decimal n
whole_text (negsuc n) = codes "-" ++ decimal (n + 1)

abbrev pub cell_text : Cell → List ℕ
cell_text Cell.Unknown = codes "nan"
cell_text (Cell.Known millionths) = signed_text millionths

-- units for COUNTER and DERIVE, millionths for GAUGE and ABSOLUTE
abbrev pub raw_text : Kind → Raw → List ℕ
raw_text kind Raw.Unknown = codes "U"
raw_text Counter (Raw.Known units) = whole_text units
raw_text Derive (Raw.Known units) = whole_text units
raw_text Gauge (Raw.Known millionths) = signed_text millionths
raw_text Absolute (Raw.Known millionths) = signed_text millionths

-- seconds since 1970
abbrev pub time_text : ℤ → List ℕ
time_text seconds = whole_text seconds
