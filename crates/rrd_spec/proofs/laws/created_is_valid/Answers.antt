use Rattle.rrd_spec.proofs.Created.{created_valid}
use Rattle.rrd_spec.proofs.laws.created_is_valid.Goals as goal

pub returns : goal.returns
returns c = created_valid
