-- Glue: the template of an update, and its last time.
use Rattle.std.specs.Prelude.{◌≡◌, ◌<◌, ℕ, List, [], ◌∷◌, Option, Some, None, length, slice_index_or}
use Rattle.rrd_base.specs.Names.{Given, Sample, Update, DsDef, value_for}
use Rattle.rrd_base.specs.declared.columns.Columns.{Columns}
pub use Rattle.rrd_spec.specs.Commands.Verdict.{template_of, template_checks}

-- the time of the last sample; 0 if there is none
abbrev pub last_time : List Sample → ℕ
last_time [] = 0
last_time (sample ∷ []) = sample.time
last_time (sample ∷ next ∷ samples) = last_time (next ∷ samples)

abbrev pub end_time : Update → ℕ
end_time update = last_time update.samples

-- ---- indexes of values

-- the value at an index, if there is one
abbrev pub value_in : List Given → Option ℕ → Given
value_in values None = Given.Unknown
value_in values (Some index) = slice_index_or values index Given.Unknown

-- an index for each data source: that of its value by the template
pub record AreColumns (sources : List DsDef) (columns : Columns) : Type 0 where
  pub one_each : length columns.indexes.items ≡ length sources
  pub indexes :
      (source : ℕ) (d : DsDef) (values : List Given) → source < length sources
      → value_in values (slice_index_or columns.indexes.items source None)
      ≡ value_for (template_of sources columns.template.now) values (slice_index_or sources source d)
