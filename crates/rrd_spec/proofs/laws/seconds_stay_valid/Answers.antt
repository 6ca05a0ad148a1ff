use Rattle.rrd_spec.proofs.PassedValid.{archive_stays_valid, stays_valid_for}
use Rattle.rrd_spec.proofs.laws.seconds_stay_valid.Goals as goal

pub returns-clause-content : goal.returns-clause-content
returns-clause-content c = stays_valid_for

pub returns-clause-archive : goal.returns-clause-archive
returns-clause-archive c = archive_stays_valid
