use Rattle.rrd_spec.proofs.MovesOn.{update_is_later}
use Rattle.rrd_spec.proofs.laws.updates_keep_newest_rows.Goals as goal

pub returns : goal.returns
returns c = update_is_later
