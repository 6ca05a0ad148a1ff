use Rattle.rrd_spec.proofs.ManySteps.{seconds_over}
use Rattle.rrd_spec.proofs.laws.seconds_pass_at_once.Goals as goal

pub returns : goal.returns
returns c = seconds_over c.one_cell_alone.ensures.step c.one_cell_alone.ensures.row
