-- Glue: the number of rows of an archive, and of all archives.
use Rattle.std.specs.Prelude.{◌≤◌, List}
use Rattle.rrd_base.specs.Names.{DsDef, Rra, present, Settings, rows_of_archives}

-- the settings of these data sources and archives
abbrev pub settings : List DsDef → List Rra → Settings
settings sources archives = record { sources = sources; rows = rows_of_archives archives }

pub record HasFewRows (archive : Rra) : Type 0 where
  pub few : archive.def.rows ≤ present.max_rows
