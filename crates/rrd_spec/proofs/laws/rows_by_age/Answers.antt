use Rattle.rrd_spec.proofs.RowLemmas.{row_by_age}
use Rattle.rrd_spec.proofs.laws.rows_by_age.Goals as goal

pub returns : goal.returns
returns c = λ rows room all unknown age h k m. row_by_age rows room age unknown all h k m
