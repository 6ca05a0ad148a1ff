use Rattle.rrd_spec.proofs.PassedLemmas.{content_of_sample}
use Rattle.rrd_spec.proofs.laws.sample_passes.Goals as goal

pub returns : goal.returns
returns c = content_of_sample
