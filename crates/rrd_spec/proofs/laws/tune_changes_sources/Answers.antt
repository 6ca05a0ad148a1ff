use Rattle.rrd_spec.proofs.Changing.{tune_changes}
use Rattle.rrd_spec.proofs.laws.tune_changes_sources.Goals as goal

pub returns : goal.returns
returns c = tune_changes
