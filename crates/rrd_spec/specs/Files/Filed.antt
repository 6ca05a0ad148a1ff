-- Definition: a database as the lists that a file has of it.
use Rattle.std.specs.Prelude.{ℕ, List, [], ◌∷◌, map, length}
use Rattle.rrd_spec.specs.Names.{Cell, Raw, Part}
use Rattle.rrd_spec.specs.declared.settings.DsDef.{DsDef}
use Rattle.rrd_spec.specs.declared.settings.RraDef.{RraDef}
use Rattle.rrd_spec.specs.declared.version.Version.{Version}
use Rattle.rrd_spec.specs.History.{Rra}
use Rattle.rrd_spec.specs.Journal.Entries.{Entry}
use Rattle.rrd_spec.specs.Files.Slots.{all_cells}
use Rattle.rrd_spec.specs.Journal.Survivors.{Stored}

-- ---- the lists

-- the step and the last time in seconds, the depth of the journal, and the numbers of data sources, archives and
-- entries
pub record Header : Type 0 where
  pub version : Version
  pub step : ℕ
  pub last : ℕ
  pub depth : ℕ
  pub sources : ℕ
  pub archives : ℕ
  pub entries : ℕ

-- a data source: its settings, its last raw value and the part of its unfinished step
pub record Source : Type 0 where
  pub def : DsDef
  pub raw : Raw
  pub part : Part

-- an archive without its rows: its settings, and the part of the unfinished row for each data source
pub record Head : Type 0 where
  pub def : RraDef
  pub parts : List Part

-- cells are ordered by archive, then by slot, then by data source; entries are ordered newest first
pub record Filed : Type 0 where
  pub header : Header
  pub sources : List Source
  pub heads : List Head
  pub cells : List Cell
  pub entries : List Entry

-- ---- the lists of a database

abbrev pub header_of : Version → Stored → Header
header_of version d = record {
  version = version;
  step = d.content.step;
  last = d.content.last;
  depth = d.content.depth;
  sources = length d.content.sources;
  archives = length d.content.archives;
  entries = length d.journal;
}

abbrev pub sources_of : List DsDef → List Raw → List Part → List Source
sources_of (def ∷ defs) (raw ∷ raws) (part ∷ parts) =
    record { def = def; raw = raw; part = part } ∷ sources_of defs raws parts
sources_of _ _ _ = []

abbrev pub head_of : Rra → Head
head_of archive = record { def = archive.def; parts = archive.parts }

abbrev pub filed : Version → Stored → Filed
filed version d = record {
  header = header_of version d;
  sources = sources_of d.content.sources d.content.raws d.content.parts;
  heads = map head_of d.content.archives;
  cells = all_cells d.content;
  entries = d.journal;
}
