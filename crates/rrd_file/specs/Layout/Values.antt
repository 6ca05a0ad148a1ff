-- Definition: the bytes of single values. Whole numbers have the highest byte first.
use Rattle.std.specs.Prelude.{ℕ, ◌-◌, ℤ, unsigned_abs, List, ◌∷◌, ◌++◌, length, replicate, Option, Some, None}
use Rattle.rrd_file.specs.Names.{w16, w32, w64, w128, to_be_bytes, cast_unsigned, Cell, Raw, Kind, Gauge, Counter, Derive, Absolute, Name, Function, Average, Min, Max, Last, Part, DsDef, RraDef}
pub use Rattle.rrd_fixed.specs.Stored.{cell_number, least}

-- ---- numbers

abbrev pub two_bytes : ℕ → List ℕ
two_bytes n = to_be_bytes w16 n

abbrev pub four_bytes : ℕ → List ℕ
four_bytes n = to_be_bytes w32 n

abbrev pub eight_bytes : ℕ → List ℕ
eight_bytes n = to_be_bytes w64 n

-- sixteen bytes, two's complement
unfoldable pub signed_bytes : ℤ → List ℕ
signed_bytes z = to_be_bytes w128 (cast_unsigned w128 z)

-- ---- values that may be unknown or absent: then the minimum is written, 80 00 .. 00, which no value is

abbrev pub raw_number : Raw → ℤ
raw_number Raw.Unknown = least
raw_number (Raw.Known value) = value

abbrev pub bound_number : Option ℤ → ℤ
bound_number None = least
bound_number (Some millionths) = millionths

abbrev pub cell_bytes : Cell → List ℕ
cell_bytes cell = signed_bytes (cell_number cell)

abbrev pub raw_bytes : Raw → List ℕ
raw_bytes raw = signed_bytes (raw_number raw)

abbrev pub bound_bytes : Option ℤ → List ℕ
bound_bytes bound = signed_bytes (bound_number bound)

-- ---- names, types and functions

-- the length, the characters, and zeros up to twenty bytes
abbrev pub name_bytes : Name → List ℕ
name_bytes name = length name ∷ name ++ replicate (19 - length name) 0

abbrev pub kind_byte : Kind → ℕ
kind_byte Gauge = 0
kind_byte Counter = 1
kind_byte Derive = 2
kind_byte Absolute = 3

abbrev pub function_byte : Function → ℕ
function_byte Average = 0
function_byte Min = 1
function_byte Max = 2
function_byte Last = 3

-- ---- settings, and partial steps and rows

-- name (20), type (1), heartbeat (8), minimum rate (16), maximum rate (16)
abbrev pub source_bytes : DsDef → List ℕ
source_bytes def =
    name_bytes def.name ++ kind_byte def.kind ∷ eight_bytes def.heartbeat ++ bound_bytes def.min ++ bound_bytes def.max

-- function (1), steps (4), xff in millionths, which is not negative (4), rows (4)
abbrev pub archive_bytes : RraDef → List ℕ
archive_bytes def =
    function_byte def.function ∷ four_bytes def.steps ++ four_bytes (unsigned_abs def.xff) ++ four_bytes def.rows

-- the number of known seconds or steps (4), their value (16)
abbrev pub part_bytes : Part → List ℕ
part_bytes part = four_bytes part.known ++ signed_bytes part.value
