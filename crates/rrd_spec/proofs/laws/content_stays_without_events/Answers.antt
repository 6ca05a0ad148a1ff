use Rattle.rrd_spec.proofs.Quiet.{content_nil}
use Rattle.rrd_spec.proofs.laws.content_stays_without_events.Goals as goal

pub returns : goal.returns
returns c = content_nil
