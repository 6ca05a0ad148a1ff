-- Definition: the settings of a database, and the values that follow from the settings alone (rrdcreate).
use Rattle.std.specs.Prelude.{ℕ, ◌*◌, List, map, [], ◌∷◌, Bool, false, ◌||◌, length, sum}
use Rattle.rrd_spec.specs.Names.{Name, same_name, list_any}
use Rattle.rrd_spec.specs.declared.settings.RraDef.{RraDef}
use Rattle.rrd_spec.specs.declared.settings.DsDef.{DsDef}

-- the resolution, in seconds per row, of an archive whose steps have `step` seconds
abbrev pub resolution : ℕ → RraDef → ℕ
resolution step def = step * def.steps

abbrev pub names : List DsDef → List Name
names sources = map (λ (source : DsDef). source.name) sources

-- the settings that a command can change: those of the data sources, and each archive's number of rows
pub record Settings : Type 0 where
  pub sources : List DsDef
  pub rows : List ℕ

abbrev pub cells : Settings → ℕ
cells settings = length settings.sources * sum settings.rows

abbrev pub has_source : List DsDef → Name → Bool
has_source sources name = list_any (λ (source : DsDef). same_name source.name name) sources

-- a name occurs twice
abbrev pub is_double : List Name → Bool
is_double [] = false
is_double (name ∷ names) = list_any (same_name name) names || is_double names
