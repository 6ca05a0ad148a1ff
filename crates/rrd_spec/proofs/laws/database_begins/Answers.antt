use Rattle.rrd_spec.proofs.Fitting.{database_begins}
use Rattle.rrd_spec.proofs.laws.database_begins.Goals as goal

pub returns : goal.returns
returns c = database_begins
