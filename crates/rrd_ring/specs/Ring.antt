-- Glue: rows of cells in one vector, one row after another, and rings of such rows.
use Rattle.std.specs.Prelude.{◌≡◌, ℕ, ◌+◌, ◌*◌, ◌-◌, ◌%◌, ◌<◌, ◌≤◌, List, Vec, ◌++◌, length, min, take, drop, map, replicate, vec_capacity}
use Rattle.std.specs.Global.{Global}
use Rattle.std.specs.List.{range_with_len}
use Rattle.rrd_fixed.specs.declared.cell.Cell.{Cell}
use Rattle.rrd_fixed.specs.declared.cell.Cell.TheVariants.{Unknown}
use Rattle.rrd_ring.specs.Rows.{max_rows, max_sources}
pub mod Slices

-- row k of a vector whose rows have `sources` cells each
abbrev pub row_of : ℕ → List Cell → ℕ → List Cell
row_of sources cells k = take sources (drop (k * sources) cells)

-- the rows of a vector: row i is the vector's row i
abbrev pub rows_of : ℕ → ℕ → List Cell → List (List Cell)
rows_of rows sources cells = map (λ i. row_of sources cells i) (range_with_len 0 rows)

-- the rows of a ring: row i is the vector's row (index + i) mod rows, so the vector's row at index `index` is the
-- oldest
abbrev pub ring_rows : ℕ → ℕ → ℕ → List Cell → List (List Cell)
ring_rows rows sources index cells = map (λ i. row_of sources cells ((index + i) % rows)) (range_with_len 0 rows)

-- the cells of a ring's vector from cell `start` on, and then the cells before it
abbrev pub from_index : ℕ → List Cell → List Cell
from_index start cells = drop start cells ++ take start cells

-- a ring of rows with the same number of cells, in one vector, and the index of its oldest row
pub record IsRing (rows sources index : ℕ) (cells : List Cell) : Type 0 where
  pub some_rows : 0 < rows
  pub few_rows : rows ≤ max_rows
  pub some_sources : 0 < sources
  pub few_sources : sources ≤ max_sources
  pub whole : length cells ≡ rows * sources
  pub index_within : index < rows

-- all cells of a ring's vector: the written ones, and unknown ones after them
abbrev pub with_unwritten : ℕ → List Cell → List Cell
with_unwritten all written = written ++ replicate (all - length written) Unknown

-- the written cells are those of `count` whole rows of `sources` cells each
pub record AreWhole (sources : ℕ) (written : List Cell) : Type 0 where
  pub count : ℕ
  pub whole : length written ≡ count * sources

-- a ring whose vector has whole written rows first, and capacity for the rest
pub record IsPartlyWritten (rows sources index : ℕ) (written : Vec Cell Global) : Type 0 where
  pub ring : IsRing rows sources index (with_unwritten (rows * sources) written.items)
  pub room : rows * sources ≤ vec_capacity written
  pub ends : AreWhole sources written.items

-- where `count` rows of a ring are in its vector, from the ring's row i on, in cells: `front` cells from cell `start`
-- on, at most to the last cell, and the other `rest` cells from the first cell on
pub record AreParts (rows sources index i count start front rest : ℕ) : Type 0 where
  pub starts : start ≡ ((index + i) % rows) * sources
  pub in_front : front ≡ min count (rows - (index + i) % rows) * sources
  pub others : rest ≡ (count - min count (rows - (index + i) % rows)) * sources

-- these cells
abbrev pub cells_in : ℕ → ℕ → ℕ → List Cell → List Cell
cells_in start front rest cells = take front (drop start cells) ++ take rest cells

-- rows with the same number of cells, in one vector
pub record AreRows (rows sources : ℕ) (cells : List Cell) : Type 0 where
  pub few_rows : rows ≤ max_rows
  pub some_sources : 0 < sources
  pub few_sources : sources ≤ max_sources
  pub whole : length cells ≡ rows * sources

-- how many of the newest rows of a ring may be written, if its vector has so many written cells: none if there is no
-- written cell; the rows before the oldest row's index if the written cells end at this index or before; otherwise all
pub record AreWritten (rows sources index cells written : ℕ) : Type 0 where
  pub none : cells ≡ 0 → written ≡ 0
  pub part : 0 < cells → cells ≤ index * sources → written ≡ index
  pub all : index * sources < cells → written ≡ rows
