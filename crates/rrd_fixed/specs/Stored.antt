-- Definition: the number that stands for a cell in memory and in files.
use Rattle.std.specs.Prelude.{ℤ, negsuc, ◌-◌, ◌^◌, ◌<◌, unsigned_abs, if◌then◌else◌}
use Rattle.std.specs.Ordering.{int_eq}
use Rattle.rrd_fixed.specs.declared.cell.Cell.{Cell}

-- the number of an unknown cell, which no known cell has
abbrev pub least : ℤ
least = negsuc (2 ^ 127 - 1)

abbrev pub cell_number : Cell → ℤ
cell_number Cell.Unknown = least
cell_number (Cell.Known millionths) = millionths

abbrev pub cell_of_number : ℤ → Cell
cell_of_number n = if int_eq n least then Cell.Unknown else Cell.Known n

-- a number other than the least one
abbrev pub FitsNumber : ℤ → Type 0
FitsNumber z = unsigned_abs z < 2 ^ 127

-- a cell that has a number of its own
abbrev pub FitsCell : Cell → Type 0
FitsCell Cell.Unknown = Unit {0}
FitsCell (Cell.Known millionths) = FitsNumber millionths
