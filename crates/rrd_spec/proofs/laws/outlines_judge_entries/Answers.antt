use Rattle.rrd_spec.proofs.Outlined.{needed, suffices}
use Rattle.rrd_spec.proofs.laws.outlines_judge_entries.Goals as goal

pub returns-clause-suffices : goal.returns-clause-suffices
returns-clause-suffices c = suffices

pub returns-clause-needed : goal.returns-clause-needed
returns-clause-needed c = needed
