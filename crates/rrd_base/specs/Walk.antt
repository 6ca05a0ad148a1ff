-- Glue: the buffers of a walk, and the steps that it adds at once.
use Rattle.std.specs.Prelude.{◌≡◌, ◌≤◌, ℕ, ◌+◌, List, ◌∷◌, length, replicate, vec_len}
use Rattle.rrd_base.specs.Names.{Cell, present, IsRow}
use Rattle.rrd_base.specs.declared.walk.Steps.{Steps}
use Rattle.rrd_base.specs.declared.walk.Walk.{Walk}
pub mod Turns

-- each buffer has one item for each data source
pub record HasPlaces (walk : Walk) (sources : ℕ) : Type 0 where
  pub raws : vec_len walk.raws ≡ sources
  pub rates : vec_len walk.rates ≡ sources
  pub step : vec_len walk.step ≡ sources
  pub row : vec_len walk.row ≡ sources

-- the sample of a walk stays, and so do the sizes of the buffers
pub record KeepsSample (walk now : Walk) : Type 0 where
  pub raws : now.raws ≡ walk.raws
  pub rates : now.rates ≡ walk.rates
  pub step : vec_len now.step ≡ vec_len walk.step
  pub row : vec_len now.row ≡ vec_len walk.row

-- ---- steps

-- the number of data sources, the number of steps, and the cells of each step
abbrev pub sources_of : Steps → ℕ
sources_of steps = length steps.first.now

abbrev pub count_of : Steps → ℕ
count_of steps = 1 + steps.count

abbrev pub cells_of : Steps → List (List Cell)
cells_of steps = steps.first.now ∷ replicate steps.count steps.others.now

-- the number of steps that have ended is at most the maximum time, and the cells are bounded
pub record AreSteps (steps : Steps) : Type 0 where
  pub in_time : steps.before + count_of steps ≤ present.max_time
  pub first : IsRow (sources_of steps) steps.first.now
  pub others : IsRow (sources_of steps) steps.others.now
