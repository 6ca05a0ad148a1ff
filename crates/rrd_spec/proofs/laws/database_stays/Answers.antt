use Rattle.rrd_spec.proofs.Fitting.{database_stays, revert_valid}
use Rattle.rrd_spec.proofs.laws.database_stays.Goals as goal

pub returns-clause-changed : goal.returns-clause-changed
returns-clause-changed c = database_stays

pub returns-clause-reverted : goal.returns-clause-reverted
returns-clause-reverted c = revert_valid
