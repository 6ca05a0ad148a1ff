-- Definition: the maximum of each setting of a database. The values are this project's.
use Rattle.std.specs.Prelude.{ℕ, Bool, true, false}
use Rattle.rrd_spec.specs.Names.{top}
use Rattle.rrd_spec.specs.declared.version.Version.{Version}
use Rattle.rrd_spec.specs.declared.version.Version.TheVariants.{One, Two}

-- the limits of one version of the file layout
pub record Limits : Type 0 where
  -- the step, in seconds (rrdcreate, "--step")
  pub max_step_seconds : ℕ
  -- the time of a start, a sample and a fetch, in seconds since 1970 (rrdcreate, "--start"; rrdupdate; rrdfetch)
  pub max_time : ℕ
  -- the number of changes that can be reverted
  pub max_journal_depth : ℕ
  -- the number of data sources, and of archives, of a database (rrdcreate, "DS", "RRA")
  pub max_sources : ℕ
  pub max_archives : ℕ
  -- the number of cells of a database: the data sources times the rows of all archives
  pub max_cells : ℕ
  -- the heartbeat of a data source, in seconds (rrdcreate, "DS")
  pub max_heartbeat : ℕ
  -- the minimum and maximum of a data source, in millionths, without their sign (rrdcreate, "DS")
  pub max_bound : ℕ
  -- the share of a row's steps that may be unknown, in millionths: below 1 (rrdcreate, "RRA")
  pub max_xff : ℕ
  -- the number of steps in a row, and of rows in an archive (rrdcreate, "RRA"; rrdresize)
  pub max_steps_per_row : ℕ
  pub max_rows : ℕ
  -- the number of rows that one fetch reads (rrdfetch)
  pub max_span : ℕ
  -- whether archives may be added and removed, with journal entries for both (rrdtune, "RRA", "DELRRA")
  pub allows_archive_changes : Bool

-- ---- the limits in which versions differ

abbrev pub max_journal_depth_of : Version → ℕ
max_journal_depth_of One = 1000
max_journal_depth_of Two = 100000

abbrev pub max_archives_of : Version → ℕ
max_archives_of One = 64
max_archives_of Two = 128

abbrev pub max_cells_of : Version → ℕ
max_cells_of One = 4000000
max_cells_of Two = 8000000

abbrev pub allows_archive_changes_of : Version → Bool
allows_archive_changes_of One = false
allows_archive_changes_of Two = true

-- ---- the limits

-- the limits of a version
abbrev pub limits_of : Version → Limits
limits_of version = record {
  max_step_seconds = 1000000;
  max_time = 9999999999;
  max_journal_depth = max_journal_depth_of version;
  max_sources = 64;
  max_archives = max_archives_of version;
  max_cells = max_cells_of version;
  max_heartbeat = 9999999999;
  max_bound = top;
  max_xff = 999999;
  max_steps_per_row = 1000000;
  max_rows = 1000000;
  max_span = 1000000;
  allows_archive_changes = allows_archive_changes_of version;
}

-- the version that is written, and the limits of every database
abbrev pub newest : Version
newest = Two

abbrev pub present : Limits
present = limits_of newest

-- the number of data sources that one tune names: one for each option (rrdtune)
abbrev pub max_tuned : ℕ
max_tuned = 5
