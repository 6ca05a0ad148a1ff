use Rattle.rrd_spec.proofs.Outlined.{joins, leaves_valid, parts}
use Rattle.rrd_spec.proofs.laws.journals_in_pieces.Goals as goal

pub returns : goal.returns
returns c = record {
  leaves = leaves_valid;
  join = joins;
  parts = parts;
}
