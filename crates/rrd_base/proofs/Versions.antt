-- What differs from version to version stays below the present limits, and what is the same.
use Rattle.std.specs.Prelude.{◌≤◌}
use Rattle.rrd_base.proofs.Names.{arith, DsDef, RraDef, Version, IsArchiveDef, limits_of, max_archives_of, max_cells_of, present, IsSourceWithin}

pub few_archives : (version : Version) → max_archives_of version ≤ present.max_archives
few_archives version = grind arith

pub few_cells : (version : Version) → max_cells_of version ≤ present.max_cells
few_cells version = grind arith

pub source_in : (from to : Version) (source : DsDef) → IsSourceWithin (limits_of from) source → IsSourceWithin (limits_of to) source
source_in from to source h = grind arith

pub archive_def_in : (from to : Version) (def : RraDef) → IsArchiveDef (limits_of from) def → IsArchiveDef (limits_of to) def
archive_def_in from to def h = assumption (h)
