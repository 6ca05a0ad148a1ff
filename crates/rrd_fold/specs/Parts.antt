-- Definition: a part, which is the number of known cells and their value by the function. The cell of a step and of a
-- row follow from the part of the cells in it.
use Rattle.std.specs.Prelude.{ℕ, ◌+◌, ◌-◌, ◌*◌, ◌^◌, ℤ, pos, ◌+ℤ◌, ◌*ℤ◌, int_lt, nat_lt, ◌==◌, if◌then◌else◌, List, [], ◌∷◌, length}
use Rattle.std.specs.List.{fold}
use Rattle.std.specs.Int.{int_min, int_max}
use Rattle.rrd_fixed.specs.declared.cell.Cell.{Cell}
use Rattle.rrd_fixed.specs.declared.cell.Cell.TheVariants.{Unknown, Known}
use Rattle.rrd_fixed.specs.Rounding.{near}
use Rattle.rrd_fold.specs.declared.function.Function.{Function}
use Rattle.rrd_fold.specs.declared.function.Function.TheVariants.{Average, Min, Max, Last}

-- the number of known cells, and their sum, minimum, maximum or last value; 0 if there is none
pub record Part : Type 0 where
  pub known : ℕ
  pub value : ℤ

-- the part of no cell
abbrev pub nothing : Part
nothing = record { known = 0; value = pos 0 }

-- the value of `known` cells and one more
abbrev pub with_value : Function → ℕ → ℤ → ℤ → ℤ
with_value Average known value new = value +ℤ new
with_value Min known value new = if known == 0 then new else int_min value new
with_value Max known value new = if known == 0 then new else int_max value new
with_value Last known value new = new

-- the part with one more cell
abbrev pub with_cell : Function → Part → Cell → Part
with_cell function part Unknown = part
with_cell function part (Known new) =
    record { known = part.known + 1; value = with_value function part.known part.value new }

-- the cell of a step of `step` seconds: unknown if more than half of them are (rrdcreate, "The HEARTBEAT and the STEP";
-- that a step is known if exactly half of it is, is this project's rule)
abbrev pub step_cell : ℕ → Part → Cell
step_cell step part =
    if nat_lt step (2 * (step - part.known)) then Unknown
    else Known (near part.value (pos part.known))

-- the consolidated value of the known steps of a row (rrdcreate, "RRA")
abbrev pub consolidated : Function → Part → ℤ
consolidated Average part = near part.value (pos part.known)
consolidated Min part = part.value
consolidated Max part = part.value
consolidated Last part = part.value

-- the cell of a row of `steps` steps: unknown if the share of unknown steps is larger than xff (rrdcreate, "RRA", xff;
-- that a row is known if exactly that share is unknown, is this project's rule)
abbrev pub row_cell : Function → ℤ → ℕ → Part → Cell
row_cell function xff steps part =
    if int_lt (xff *ℤ pos steps) (pos ((steps - part.known) * 10 ^ 6)) then Unknown
    else Known (consolidated function part)

-- one more cell for the part of each data source
abbrev pub with_each : Function → List Part → List Cell → List Part
with_each function [] cells = []
with_each function (part ∷ parts) [] = part ∷ parts
with_each function (part ∷ parts) (cell ∷ cells) = with_cell function part cell ∷ with_each function parts cells

-- ---- the same values, defined on the whole list of cells

-- the known values of a list of cells
abbrev pub values : List Cell → List ℤ
values [] = []
values (Unknown ∷ cells) = values cells
values (Known value ∷ cells) = value ∷ values cells

-- the sum, minimum, maximum or last of the values; 0 if there is none
abbrev pub summary : Function → List ℤ → ℤ
summary function [] = pos 0
summary Average (value ∷ values) = fold ◌+ℤ◌ value values
summary Min (value ∷ values) = fold int_min value values
summary Max (value ∷ values) = fold int_max value values
summary Last (value ∷ values) = fold (λ before new. new) value values

-- the part of a list of cells
abbrev pub part_of : Function → List Cell → Part
part_of function cells = record { known = length (values cells); value = summary function (values cells) }
