use Rattle.rrd_fold.proofs.Wholes.{whole_row, whole_step}
use Rattle.rrd_fold.proofs.laws.one_cell_alone.Goals as goal

pub returns-clause-step : goal.returns-clause-step
returns-clause-step c = whole_step

pub returns-clause-row : goal.returns-clause-row
returns-clause-row c = whole_row
