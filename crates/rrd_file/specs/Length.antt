-- Glue: the values and limits for counting the bytes of a database.
use Rattle.std.specs.Prelude.{◌≡◌, ℕ, length}
use Rattle.rrd_file.specs.Names.{HasWidth, Rra, SavedArchive}

-- a partial row for each of `sources` data sources, and rows with a cell for each
pub record IsWide (sources : ℕ) (old : SavedArchive) : Type 0 where
  pub one_part_each : length old.parts ≡ sources
  pub one_cell_each : HasWidth sources old.rows

abbrev pub rows_of : Rra → ℕ
rows_of archive = archive.def.rows

-- ---- limits of sums, so that no sum exceeds 64 bits

-- bytes of an archive's rows
abbrev pub most_of_rows : ℕ
most_of_rows = 1024000000

-- bytes of the values that an update replaced in an archive, and in all archives
abbrev pub most_of_saved : ℕ
most_of_saved = 1025000000

abbrev pub most_of_all_saved : ℕ
most_of_all_saved = 131200000000

-- bytes of an entry, and of all entries
abbrev pub most_of_entry : ℕ
most_of_entry = 132000000000

abbrev pub most_of_entries : ℕ
most_of_entries = 13200000000000000

-- rows of all archives, bytes of all cells, and bytes of what is before them
abbrev pub max_rows_in_all : ℕ
max_rows_in_all = 128000000

abbrev pub most_of_cells : ℕ
most_of_cells = 132000000000

abbrev pub most_of_front : ℕ
most_of_front = 200000
