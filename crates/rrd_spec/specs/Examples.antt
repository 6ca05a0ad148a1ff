-- Example: the results of the definitions for worked histories, commands and times; and the values that these use.
use Rattle.std.specs.Prelude.{ℕ, ◌^◌, ◌*◌, pos, None, List, [], ◌∷◌, map, replicate, false}
use Rattle.rrd_spec.specs.Names.{Cell, Raw, Gauge, Counter, Function, Last, nothing, fold, Name}
use Rattle.rrd_spec.specs.declared.settings.DsDef.{DsDef}
use Rattle.rrd_spec.specs.declared.settings.RraDef.{RraDef}
use Rattle.rrd_spec.specs.History.{Rra, Content, Event, Sampled}
use Rattle.rrd_spec.specs.declared.requests.update.Given.{Given}
use Rattle.rrd_spec.specs.declared.requests.update.Sample.{Sample}
use Rattle.rrd_spec.specs.declared.requests.tune.Tuning.{Tuning}
use Rattle.rrd_spec.specs.Commands.{DatabaseChange, Updating}
use Rattle.rrd_spec.specs.Journal.Survivors.{Action, Stored, stored_after}
pub mod Histories
pub mod Commands
pub mod Creates
pub mod Resizes
pub mod Archives
pub mod Fetches

abbrev pub created : ℕ → ℕ → DsDef → List RraDef → Content
created step start source defs = record {
  step = step;
  depth = 16;
  sources = source ∷ [];
  last = start;
  raws = Raw.Unknown ∷ [];
  parts = nothing ∷ [];
  archives = map
      (λ def. record { def = def; parts = nothing ∷ []; rows = replicate def.rows (Cell.Unknown ∷ []) })
      defs;
}

abbrev pub gauge : ℕ → DsDef
gauge heartbeat = record { name = 97 ∷ []; kind = Gauge; heartbeat = heartbeat; min = None; max = None }

abbrev pub counter : ℕ → DsDef
counter heartbeat = record { name = 97 ∷ []; kind = Counter; heartbeat = heartbeat; min = None; max = None }

abbrev pub archive : Function → ℕ → ℕ → RraDef
archive function steps rows = record { function = function; xff = pos 500000; steps = steps; rows = rows }

-- a sample of a gauge, in whole units
abbrev pub at : ℕ → ℕ → Event
at time value = Sampled (record { time = time; raws = Raw.Known (pos (value * 10 ^ 6)) ∷ [] })

abbrev pub count_at : ℕ → ℕ → Event
count_at time value = Sampled (record { time = time; raws = Raw.Known (pos value) ∷ [] })

-- the rows of each archive
abbrev pub rows : Content → List (List (List Cell))
rows content = map (λ (a : Rra). a.rows) content.archives

abbrev pub known : ℕ → List Cell
known millionths = Cell.Known (pos millionths) ∷ []

abbrev pub nan : List Cell
nan = Cell.Unknown ∷ []

abbrev pub letter : ℕ → Name
letter c = c ∷ []

abbrev pub whole : ℕ → Given
whole value = Given.Number (record { millionths = pos (value * 10 ^ 6); point = false })

abbrev pub reading : ℕ → ℕ → Sample
reading time value = record { time = time; values = whole value ∷ [] }

abbrev pub update : List Sample → DatabaseChange
update samples = Updating (record { template = None; samples = samples })

abbrev pub no_tuning : Tuning
no_tuning =
    record { heartbeat = None; minimum = None; maximum = None; kind = None; rename = None; archive = None }

-- a database with one gauge `g` and one archive of `rows` last values, one step in each row
abbrev pub small : ℕ → Content
small rows = created 10 0 (record (gauge 100) { name = letter 103 }) (archive Last 1 rows ∷ [])

abbrev pub run : Content → List Action → Stored
run base actions = fold stored_after (record { content = base; journal = [] }) actions
