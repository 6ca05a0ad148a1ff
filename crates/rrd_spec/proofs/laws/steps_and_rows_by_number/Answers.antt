use Rattle.rrd_spec.proofs.CellLemmas.{lists_by_number}
use Rattle.rrd_spec.proofs.laws.steps_and_rows_by_number.Goals as goal

pub returns : goal.returns
returns c = lists_by_number
