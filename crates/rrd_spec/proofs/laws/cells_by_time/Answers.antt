use Rattle.rrd_spec.proofs.Common.{shows_by_time, shows_cells}
use Rattle.rrd_spec.proofs.laws.cells_by_time.Goals as goal

pub returns-clause-rows : goal.returns-clause-rows
returns-clause-rows c = shows_by_time

pub returns-clause-cells : goal.returns-clause-cells
returns-clause-cells c = shows_cells
