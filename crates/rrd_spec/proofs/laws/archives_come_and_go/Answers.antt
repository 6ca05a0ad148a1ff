use Rattle.rrd_spec.proofs.Common.{lived-cut, add_changes, blank_at_first, remove_changes}
use Rattle.rrd_spec.proofs.laws.archives_come_and_go.Goals as goal

pub returns : goal.returns
returns c = record {
  cut = lived-cut;
  add = add_changes;
  remove = remove_changes;
  blank = blank_at_first;
}
