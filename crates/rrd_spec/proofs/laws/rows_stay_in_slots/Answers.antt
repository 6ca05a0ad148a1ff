use Rattle.rrd_spec.proofs.RowsStay.{cell_stays_in_slot, stays_in_slot}
use Rattle.rrd_spec.proofs.laws.rows_stay_in_slots.Goals as goal

pub returns-clause-row : goal.returns-clause-row
returns-clause-row c = stays_in_slot

pub returns-clause-cell : goal.returns-clause-cell
returns-clause-cell c = cell_stays_in_slot
