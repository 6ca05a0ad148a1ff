use Rattle.rrd_spec.proofs.PassedLemmas.{passed_within}
use Rattle.rrd_spec.proofs.laws.seconds_pass_within_a_step.Goals as goal

pub returns : goal.returns
returns c = passed_within
