use Rattle.rrd_spec.proofs.Outlined.{filed_outline, follows}
use Rattle.rrd_spec.proofs.laws.outlines_follow.Goals as goal

pub returns-clause-undone : goal.returns-clause-undone
returns-clause-undone c = follows

pub returns-clause-filed : goal.returns-clause-filed
returns-clause-filed c = filed_outline
