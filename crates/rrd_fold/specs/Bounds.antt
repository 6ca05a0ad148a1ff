-- Definition: the limits of counts and values of known cells.
use Rattle.std.specs.Prelude.{ℕ, ◌*◌, ◌≤◌, ◌≡◌, ◌==◌, if◌then◌else◌, ℤ, pos, unsigned_abs}
use Rattle.rrd_fixed.specs.declared.cell.Cell.{Cell}
use Rattle.rrd_fixed.specs.declared.cell.Cell.TheVariants.{Unknown, Known}
use Rattle.rrd_fixed.specs.Rate.{top}
pub use Rattle.rrd_fixed.specs.Rate.{IsBounded}
use Rattle.rrd_fold.specs.declared.function.Function.{Function}
use Rattle.rrd_fold.specs.declared.function.Function.TheVariants.{Average, Min, Max, Last}
use Rattle.rrd_fold.specs.Parts.{Part, consolidated}

-- the maximum number of known cells in one part
abbrev pub most_known : ℕ
most_known = 1000000

-- a sum of `known` values, each from -TOP to TOP
pub record IsSum (known : ℕ) (sum : ℤ) : Type 0 where
  pub few : known ≤ most_known
  pub bounded : unsigned_abs sum ≤ known * top

-- the number of known cells in `n` copies of a cell
abbrev pub counted : ℕ → Cell → ℕ
counted n Unknown = 0
counted n (Known value) = n

-- the partial row of a data source: its function, and the part of its steps
pub record Consolidating : Type 0 where
  pub function : Function
  pub part : Part

-- how many cells of the largest size the value may add up to: all known ones for AVERAGE, one for the others
abbrev pub weight : Function → ℕ → ℕ
weight Average known = known
weight Min known = 1
weight Max known = 1
weight Last known = 1

pub record IsConsolidated (function : Function) (known : ℕ) (value : ℤ) : Type 0 where
  pub few : known ≤ most_known
  pub bounded : unsigned_abs value ≤ weight function known * top
  pub empty : known ≡ 0 → value ≡ pos 0

-- the consolidated value of the known cells; unknown if there is none
abbrev pub finished_cell : Function → Part → Cell
finished_cell function part = if part.known == 0 then Unknown else Known (consolidated function part)
