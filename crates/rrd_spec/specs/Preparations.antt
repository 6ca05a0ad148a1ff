-- Definition: the partial steps and rows of many data sources; and, as glue, their cells and their changes.
use Rattle.std.specs.Prelude.{◌≡◌, ℕ, ℤ, List, [], ◌∷◌, map, replicate}
use Rattle.rrd_spec.specs.Names.{AllByRecursion, fold, Cell, Function, Part, nothing, with_cell, row_cell, Consolidating}

-- a function of two lists, item by item
abbrev pub map_each : {P A : Type 0} → (P → A → P) → List P → List A → List P
map_each f [] xs = []
map_each f (p ∷ ps) [] = p ∷ ps
map_each f (p ∷ ps) (x ∷ xs) = f p x ∷ map_each f ps xs

-- a partial row with `count` more steps of one cell, and an emptied partial row
abbrev pub with_steps : ℕ → Consolidating → Cell → Consolidating
with_steps count prep cell =
    record { function = prep.function; part = fold (with_cell prep.function) prep.part (replicate count cell) }

abbrev pub anew : Consolidating → Consolidating
anew prep = record { function = prep.function; part = nothing }

-- the cell of a row that is finished
abbrev pub row_of : ℤ → ℕ → Consolidating → Cell
row_of xff steps prep = row_cell prep.function xff steps prep.part

-- the parts of partial rows
abbrev pub parts_in : List Consolidating → List Part
parts_in preps = map (λ (prep : Consolidating). prep.part) preps

-- all partial rows have the same consolidation function
abbrev pub AllOf : Function → List Consolidating → Type 0
AllOf function preps = AllByRecursion (λ (prep : Consolidating). prep.function ≡ function) preps
