use Rattle.rrd_spec.proofs.Changing.{resize_changes, resize_fits}
use Rattle.rrd_spec.proofs.laws.resize_changes_rows.Goals as goal

pub returns-clause-fits : goal.returns-clause-fits
returns-clause-fits c = resize_fits

pub returns-clause-changes : goal.returns-clause-changes
returns-clause-changes c = resize_changes
