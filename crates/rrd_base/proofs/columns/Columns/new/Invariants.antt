use Rattle.rrd_base.proofs.Common.{◌≡◌, ◌<◌, ℕ, List, None, get_or, length, Given, DsDef, value_for, template_of, value_in}
use Rattle.rrd_base.proofs.columns.Columns.new.Given as goal

abbrev pub invariant-loop-source : goal.invariant-loop-source
invariant-loop-source l = record {
  count : length l.indexes.items ≡ l.source;
  indexes : (source : ℕ) (d : DsDef) (values : List Given) → source < l.source → value_in values (get_or l.indexes.items source None) ≡ value_for (template_of l.sources l.template) values (get_or l.sources source d);
}
