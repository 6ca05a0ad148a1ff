-- Definition: the units of work of an update (this project's).
use Rattle.std.specs.Prelude.{ℕ, ◌+◌, ◌*◌, ◌≤◌, min, List, [], ◌∷◌, map, sum, length}
use Rattle.rrd_spec.specs.declared.settings.RraDef.{RraDef}
use Rattle.rrd_spec.specs.declared.requests.update.Sample.{Sample}
use Rattle.rrd_spec.specs.declared.requests.update.Update.{Update}
use Rattle.rrd_spec.specs.Journal.Entries.{rows_between}
use Rattle.rrd_spec.specs.History.{Content, definitions}
use Rattle.rrd_spec.specs.History.Steps.{step}

-- the number of an archive's rows that end in the interval before a sample, at most as many as the archive has
abbrev pub rows_shown : ℕ → ℕ → ℕ → RraDef → ℕ
rows_shown step from to def = min (rows_between step def from to) def.rows

-- the minimum for a sample: one unit of work for each cell of those rows
abbrev pub least_of_sample : ℕ → ℕ → List RraDef → ℕ → ℕ → ℕ
least_of_sample sources step defs from to = sources * sum (map (rows_shown step from to) defs)

-- the maximum for a sample: three more for each data source, and eight more for each data source in each archive,
-- however long the interval
abbrev pub most_of_sample : ℕ → ℕ → List RraDef → ℕ → ℕ → ℕ
most_of_sample sources step defs from to =
    sources * (3 + sum (map (λ (def : RraDef). 8 + rows_shown step from to def) defs))

-- the sum over all samples; the interval of each begins at the time of the sample before
abbrev pub in_all : (ℕ → ℕ → ℕ) → ℕ → List Sample → ℕ
in_all turns last [] = 0
in_all turns last (sample ∷ samples) = turns last sample.time + in_all turns sample.time samples

pub record AreTurns (base : Content) (update : Update) (turns : ℕ) : Type 0 where
  pub least :
      in_all (least_of_sample (length base.sources) base.step (definitions base.archives)) base.last update.samples
      ≤ turns
  pub most :
      turns
      ≤ in_all (most_of_sample (length base.sources) base.step (definitions base.archives)) base.last update.samples
