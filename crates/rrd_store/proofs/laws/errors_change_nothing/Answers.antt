use Rattle.rrd_store.proofs.Common.{fault_changes_nothing}
use Rattle.rrd_store.proofs.laws.errors_change_nothing.Goals as goal

pub returns : goal.returns
returns c = fault_changes_nothing
