-- Glue: the value that a record was read as.
use Rattle.rrd_file.specs.Names.{Source}
use Rattle.rrd_file.specs.declared.source.SourceRead.{SourceRead}

abbrev pub source_said : SourceRead → Source
source_said s = record { def = s.def; raw = s.raw; part = record { known = s.known; value = s.sum } }
