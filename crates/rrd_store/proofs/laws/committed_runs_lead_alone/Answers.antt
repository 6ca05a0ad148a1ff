use Rattle.rrd_store.proofs.Committed.{committed_alone}
use Rattle.rrd_store.proofs.laws.committed_runs_lead_alone.Goals as goal

pub returns : goal.returns
returns c = committed_alone
