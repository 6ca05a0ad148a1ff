use Rattle.rrd_spec.proofs.ManySteps.{steps_in_pieces, steps_over, steps_within}
use Rattle.rrd_spec.proofs.laws.steps_pass_at_once.Goals as goal

pub returns : goal.returns
returns c = record {
  pieces = steps_in_pieces;
  within = steps_within;
  over = steps_over c.one_cell_alone.ensures.step c.one_cell_alone.ensures.row;
}
