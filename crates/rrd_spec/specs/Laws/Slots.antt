-- Law: which row is in which slot of a file, and the cells of a file after a row is put at its index.
use Rattle.std.specs.Prelude.{◌≡◌, ◌≢◌, ℕ, ◌+◌, ◌-◌, ◌*◌, ◌/◌, ◌<◌, List, [], ◌++◌, length, take, drop, slice_index_or, slice_set}
use Rattle.rrd_spec.specs.Names.{AllByRecursion, Cell}
use Rattle.rrd_spec.specs.Settings.{resolution}
use Rattle.rrd_spec.specs.History.Cells.{row_at, time_of}
use Rattle.rrd_spec.specs.History.{Rra, Content}
use Rattle.rrd_spec.specs.Files.Slots.{by_slot, row_in, slot_of}
use Rattle.rrd_spec.specs.Files.Places.{place_in}

-- ---- slots and indexes

-- each slot has an index, and the time of the row at that index has the slot
pub record HasPlace (resolution last rows slot : ℕ) : Type 0 where
  pub there : place_in resolution last rows slot < rows
  pub back : slot_of resolution rows (time_of resolution rows last (place_in resolution last rows slot)) ≡ slot

abbrev pub SlotHasPlace : ℕ → ℕ → ℕ → ℕ → Type 0
SlotHasPlace resolution last rows slot = 0 < resolution → slot < rows → HasPlace resolution last rows slot

-- each index has a slot: that of its row's time
pub record HasSlot (resolution last rows place : ℕ) : Type 0 where
  pub there : slot_of resolution rows (time_of resolution rows last place) < rows
  pub back : place_in resolution last rows (slot_of resolution rows (time_of resolution rows last place)) ≡ place

abbrev pub PlaceHasSlot : ℕ → ℕ → ℕ → ℕ → Type 0
PlaceHasSlot resolution last rows place = 0 < resolution → place < rows → HasSlot resolution last rows place

-- different slots have different indexes
abbrev pub PlacesDiffer : ℕ → ℕ → ℕ → ℕ → ℕ → Type 0
PlacesDiffer resolution last rows slot other =
    slot < rows → other < rows → slot ≢ other → place_in resolution last rows slot ≢ place_in resolution last rows other

-- ---- rows

-- the row in a slot, found by its time, is the one at the slot's index
abbrev pub StandsInPlace : ℕ → ℕ → List (List Cell) → ℕ → Type 0
StandsInPlace resolution last rows slot =
    0 < resolution → slot < length rows
    → row_in resolution last rows slot ≡ slice_index_or rows (place_in resolution last (length rows) slot) []

-- a content shows at the time of an index the row at that index
abbrev pub ShowsInPlace : Content → Rra → ℕ → Type 0
ShowsInPlace content archive place =
    let size = resolution content.step archive.def in
    0 < size → place < length archive.rows
    → row_at content archive (time_of size (length archive.rows) content.last place)
    ≡ slice_index_or archive.rows place []

-- the rows with another row at a slot's index
abbrev pub with_row_in : ℕ → ℕ → List (List Cell) → ℕ → List Cell → List (List Cell)
with_row_in resolution last rows slot row = slice_set rows (place_in resolution last (length rows) slot) row

-- the new row is then in that slot, and the other slots keep their rows
abbrev pub PutsRow : ℕ → ℕ → List (List Cell) → ℕ → List Cell → Type 0
PutsRow resolution last rows slot row =
    0 < resolution → slot < length rows → row_in resolution last (with_row_in resolution last rows slot row) slot ≡ row

abbrev pub KeepsRow : ℕ → ℕ → List (List Cell) → ℕ → List Cell → ℕ → Type 0
KeepsRow resolution last rows slot row other =
    0 < resolution → slot < length rows → other < length rows → other ≢ slot
    → row_in resolution last (with_row_in resolution last rows slot row) other ≡ row_in resolution last rows other

-- ---- an update

-- between two last times as many rows ended as were saved, the oldest. Each row that is not among the newest, as many as
-- these, is in the slot in which it was before
abbrev pub StaysInSlot : ℕ → ℕ → ℕ → List (List Cell) → List (List Cell) → ℕ → Type 0
StaysInSlot resolution from to saved rows slot =
    0 < resolution → to / resolution ≡ from / resolution + length saved → slot < length rows
    → place_in resolution to (length rows) slot + length saved < length rows
    → row_in resolution to rows slot
    ≡ row_in resolution from (saved ++ take (length rows - length saved) rows) slot

-- ---- cells, if each row has one cell for each data source

abbrev pub HasOneEach : ℕ → List Cell → Type 0
HasOneEach sources row = length row ≡ sources

-- there are as many cells as rows times data sources
abbrev pub AsManyCells : ℕ → ℕ → ℕ → List (List Cell) → Type 0
AsManyCells resolution last sources rows =
    0 < resolution → AllByRecursion (HasOneEach sources) rows
    → length (by_slot resolution last rows) ≡ length rows * sources

-- the cell of a slot and a data source is that of the row at the slot's index
abbrev pub CellStandsInSlot : ℕ → ℕ → ℕ → List (List Cell) → ℕ → ℕ → Cell → Type 0
CellStandsInSlot resolution last sources rows slot source or =
    0 < resolution → AllByRecursion (HasOneEach sources) rows → slot < length rows → source < sources
    → slice_index_or (by_slot resolution last rows) (slot * sources + source) or
    ≡ slice_index_or (slice_index_or rows (place_in resolution last (length rows) slot) []) source or

-- another row at a slot's index changes one block of cells
abbrev pub PutsBlock : ℕ → ℕ → ℕ → List (List Cell) → ℕ → List Cell → Type 0
PutsBlock resolution last sources rows slot row =
    let cells = by_slot resolution last rows in
    0 < resolution → AllByRecursion (HasOneEach sources) rows → slot < length rows → length row ≡ sources
    → by_slot resolution last (with_row_in resolution last rows slot row)
    ≡ take (slot * sources) cells ++ (row ++ drop ((slot + 1) * sources) cells)

-- another cell in that row changes only that cell
abbrev pub PutsCell : ℕ → ℕ → ℕ → List (List Cell) → ℕ → ℕ → Cell → Type 0
PutsCell resolution last sources rows slot source cell =
    let row = slice_index_or rows (place_in resolution last (length rows) slot) [] in
    0 < resolution → AllByRecursion (HasOneEach sources) rows → slot < length rows → source < sources
    → by_slot resolution last (with_row_in resolution last rows slot (slice_set row source cell))
    ≡ slice_set (by_slot resolution last rows) (slot * sources + source) cell

-- a cell of such a row is where it was, counted in cells
abbrev pub CellStaysInSlot : ℕ → ℕ → ℕ → ℕ → List (List Cell) → List (List Cell) → ℕ → ℕ → Cell → Type 0
CellStaysInSlot resolution from to sources saved rows slot source or =
    0 < resolution → to / resolution ≡ from / resolution + length saved → slot < length rows → source < sources
    → AllByRecursion (HasOneEach sources) saved → AllByRecursion (HasOneEach sources) rows
    → place_in resolution to (length rows) slot + length saved < length rows
    → slice_index_or (by_slot resolution to rows) (slot * sources + source) or
    ≡ slice_index_or (by_slot resolution from (saved ++ take (length rows - length saved) rows)) (slot * sources + source) or
