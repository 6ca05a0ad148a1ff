-- Glue: what a fetch may read.
use Rattle.std.specs.Prelude.{◌+◌, ◌*◌, ◌<◌, ◌≤◌, ℕ, length}
use Rattle.rrd_tool.specs.Names.{Chosen, Content}

-- an archive that exists, its resolution, and times within a limit
pub record IsReadable (content : Content) (chosen : Chosen) : Type 0 where
  pub there : chosen.archive < length content.archives
  pub some : 0 < chosen.res
  pub small : chosen.hi ≤ 2000000000000

-- how many bytes the line of a row has at most: a time has 20, and each cell 48
abbrev pub row_room : ℕ → ℕ
row_room sources = 22 + 49 * sources
