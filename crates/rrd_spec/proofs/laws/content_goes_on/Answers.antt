use Rattle.rrd_spec.proofs.ContentLemmas.{listed-append}
use Rattle.rrd_spec.proofs.Moving.{goes_on}
use Rattle.rrd_spec.proofs.laws.content_goes_on.Goals as goal

pub returns-clause-by_time : goal.returns-clause-by_time
returns-clause-by_time c = goes_on

pub returns-clause-by_list : goal.returns-clause-by_list
returns-clause-by_list c = listed-append
