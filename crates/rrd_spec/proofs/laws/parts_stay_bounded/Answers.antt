use Rattle.rrd_spec.proofs.Bounded.{more, no_parts}
use Rattle.rrd_spec.proofs.laws.parts_stay_bounded.Goals as goal

pub returns-clause-none : goal.returns-clause-none
returns-clause-none c = no_parts

pub returns-clause-one_more : goal.returns-clause-one_more
returns-clause-one_more c = more
