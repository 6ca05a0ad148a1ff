-- Definition: rows of cells, oldest first.
use Rattle.std.specs.Prelude.{◌≡◌, ℕ, zero, suc, ◌+◌, ◌-◌, ◌*◌, ◌%◌, ◌≤◌, List, [], ◌∷◌, ◌++◌, length, take, drop, replicate, slice_index_or, slice_set}
use Rattle.std.specs.List.{AllByRecursion, flat_map, refill}
use Rattle.rrd_fixed.specs.declared.cell.Cell.{Cell}
use Rattle.rrd_fixed.specs.declared.cell.Cell.TheVariants.{Unknown}

-- row i; row 0 is the oldest
abbrev pub nth_row : List (List Cell) → ℕ → List Cell
nth_row rows i = slice_index_or rows i []

-- the rows with other cells in row i, which keeps its number of cells
abbrev pub with_row : List (List Cell) → ℕ → List Cell → List (List Cell)
with_row rows i cells = slice_set rows i (refill (length (nth_row rows i)) (nth_row rows i) cells)

-- the rows with `n` new rows from row i on, wrapping from the newest row to the oldest; one list has the cells of all
abbrev pub with_rows : ℕ → ℕ → List (List Cell) → ℕ → List Cell → List (List Cell)
with_rows zero sources rows i cells = rows
with_rows (suc n) sources rows i cells =
    slice_set (with_rows n sources rows i cells) ((i + n) % length rows) (take sources (drop (n * sources) cells))

-- the cells of rows, one row after another
abbrev pub row_cells : List (List Cell) → List Cell
row_cells rows = flat_map (λ (row : List Cell). row) rows

-- the number of cells in the oldest row
abbrev pub width : List (List Cell) → ℕ
width [] = 0
width (row ∷ rows) = length row

-- each row has `sources` cells
abbrev pub HasWidth : ℕ → List (List Cell) → Type 0
HasWidth sources rows = AllByRecursion (λ (row : List Cell). length row ≡ sources) rows

-- `rows` rows of `sources` cells each, all unknown
abbrev pub unknown_rows : ℕ → ℕ → List (List Cell)
unknown_rows rows sources = replicate rows (replicate sources Unknown)

-- the `n` newest rows; if there are fewer, unknown rows precede the oldest
abbrev pub newest_rows : ℕ → List (List Cell) → List (List Cell)
newest_rows n rows = unknown_rows (n - length rows) (width rows) ++ drop (length rows - n) rows

-- the maximum number of rows in an archive, and of cells in a row
abbrev pub max_rows : ℕ
max_rows = 1000000

abbrev pub max_sources : ℕ
max_sources = 64

-- rows that an archive dropped, which all have the same number of cells
pub record AreDropped (rows : List (List Cell)) : Type 0 where
  pub few_rows : length rows ≤ max_rows
  pub one_width : HasWidth (width rows) rows
