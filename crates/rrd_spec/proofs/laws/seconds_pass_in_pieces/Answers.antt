use Rattle.rrd_spec.proofs.PassedLemmas.{passed-append}
use Rattle.rrd_spec.proofs.laws.seconds_pass_in_pieces.Goals as goal

pub returns : goal.returns
returns c = passed-append
