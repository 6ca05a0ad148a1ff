-- Definition: the order of an archive's rows in a file (this project's rule). The slot of a row depends on its time
-- alone, so a row keeps its slot while others are added and dropped.
use Rattle.std.specs.Prelude.{ℕ, ℤ, pos, unsigned_abs, ◌==◌, Bool, List, [], length}
use Rattle.rrd_spec.specs.Names.{find, flat_map, enumerate_from, range_with_len, option_map_or, int_div_euclid, int_rem_euclid, Cell}
use Rattle.rrd_spec.specs.Settings.{resolution}
use Rattle.rrd_spec.specs.History.Cells.{time_of}
use Rattle.rrd_spec.specs.History.{Rra, Content}
use Rattle.rrd_spec.specs.History.Rows.{row}
use Rattle.rrd_spec.specs.History.Steps.{step}

-- the slot of the row that ends at a time, in an archive of `rows` rows: the number of the row since 1970, which may be
-- negative, modulo the number of rows
abbrev pub slot_of : ℕ → ℕ → ℤ → ℕ
slot_of resolution rows time = unsigned_abs (int_rem_euclid (int_div_euclid time (pos resolution)) (pos rows))

-- whether the row at an index, 0 the oldest, is in a slot
abbrev pub stands_in : ℕ → ℕ → ℕ → ℕ → ℕ × List Cell → Bool
stands_in resolution rows last slot (place, row) = slot_of resolution rows (time_of resolution rows last place) == slot

-- the row in a slot
abbrev pub row_in : ℕ → ℕ → List (List Cell) → ℕ → List Cell
row_in resolution last rows slot =
    option_map_or (λ found. found.1) (find (stands_in resolution (length rows) last slot) (enumerate_from 0 rows)) []

-- the cells by slot, then by data source; rows have `resolution` seconds, and the newest row is the last to end by the
-- last time
abbrev pub by_slot : ℕ → ℕ → List (List Cell) → List Cell
by_slot resolution last rows = flat_map (row_in resolution last rows) (range_with_len 0 (length rows))

-- the cells of an archive in the order of a file
abbrev pub cells_by_slot : ℕ → ℕ → Rra → List Cell
cells_by_slot step last archive = by_slot (resolution step archive.def) last archive.rows

-- the cells of all archives in the order of a file
abbrev pub all_cells : Content → List Cell
all_cells content = flat_map (cells_by_slot content.step content.last) content.archives
