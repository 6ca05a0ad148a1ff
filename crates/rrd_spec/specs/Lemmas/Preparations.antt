-- Law: the partial steps and rows of many data sources, one after another.
use Rattle.std.specs.Prelude.{◌≡◌, ℕ, zero, suc, List, [], ◌∷◌, length, map, replicate}
use Rattle.rrd_spec.specs.Names.{refl, sym, ◌∙◌, ap, ap₂, fold, Cell, Function, Consolidating, Part, nothing, with_cell, with_each}
use Rattle.rrd_spec.specs.Preparations.{AllOf, anew, map_each, parts_in, with_steps}
use Rattle.rrd_spec.specs.Settings.{cells}
use Rattle.rrd_spec.specs.History.Steps.{step}

-- ---- parts

-- the same row of cells many times, data source by data source
pub fold-with_each : (function : Function) (n : ℕ) (parts : List Part) (cells : List Cell)
    → fold (with_each function) parts (replicate n cells)
    ≡ map_each (λ p c. fold (with_cell function) p (replicate n c)) parts cells
fold-with_each function n [] cells = none n where
  none : (n : ℕ) → fold (with_each function) [] (replicate n cells) ≡ []
  none zero = refl
  none (suc n) = none n
fold-with_each function n (part ∷ parts) [] = none n where
  none : (n : ℕ) → fold (with_each function) (part ∷ parts) (replicate n []) ≡ part ∷ parts
  none zero = refl
  none (suc n) = none n
fold-with_each function n (part ∷ parts) (cell ∷ cells) =
    each n part parts
    ∙ ap (λ rest. fold (with_cell function) part (replicate n cell) ∷ rest)
    (fold-with_each function n parts cells) where
      each : (n : ℕ) (part : Part) (parts : List Part)
          → fold (with_each function) (part ∷ parts) (replicate n (cell ∷ cells))
          ≡ fold (with_cell function) part (replicate n cell) ∷ fold (with_each function) parts (replicate n cells)
      each zero part parts = refl
      each (suc n) part parts = each n (with_cell function part cell) (with_each function parts cells)

-- ---- partial rows

-- the parts of partial rows with the same function
parts_in-each : (function : Function) (count : ℕ) (preps : List Consolidating) (step : List Cell)
    → AllOf function preps
    → parts_in (map_each (with_steps count) preps step)
    ≡ map_each (λ p c. fold (with_cell function) p (replicate count c)) (parts_in preps) step
parts_in-each function count [] step of = refl
parts_in-each function count (prep ∷ preps) [] of = refl
parts_in-each function count (prep ∷ preps) (cell ∷ step) of =
    ap₂ (λ (part : Part) (parts : List Part). part ∷ parts)
    (ap (λ f. fold (with_cell f) prep.part (replicate count cell)) of.0)
    (parts_in-each function count preps step of.1)

pub parts_in-with_steps : (function : Function) (count : ℕ) (preps : List Consolidating) (step : List Cell)
    → AllOf function preps
    → parts_in (map_each (with_steps count) preps step)
    ≡ fold (with_each function) (parts_in preps) (replicate count step)
parts_in-with_steps function count preps step of =
    parts_in-each function count preps step of ∙ sym (fold-with_each function count (parts_in preps) step)

pub parts_in-anew : (preps : List Consolidating) → parts_in (map anew preps) ≡ replicate (length preps) nothing
parts_in-anew [] = refl
parts_in-anew (prep ∷ preps) = ap (λ rest. nothing ∷ rest) (parts_in-anew preps)

-- partial rows keep their function
pub AllOf-with_steps : (function : Function) (count : ℕ) (preps : List Consolidating) (step : List Cell)
    → AllOf function preps → AllOf function (map_each (with_steps count) preps step)
AllOf-with_steps function count [] step of = tt
AllOf-with_steps function count (prep ∷ preps) [] of = of
AllOf-with_steps function count (prep ∷ preps) (cell ∷ step) of =
    (of.0, AllOf-with_steps function count preps step of.1)

pub AllOf-anew : (function : Function) (preps : List Consolidating) → AllOf function preps
    → AllOf function (map anew preps)
AllOf-anew function [] of = tt
AllOf-anew function (prep ∷ preps) of = (of.0, AllOf-anew function preps of.1)
