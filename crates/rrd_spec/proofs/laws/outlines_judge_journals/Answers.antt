use Rattle.rrd_spec.proofs.Outlined.{all_needed, all_suffice, takes, took}
use Rattle.rrd_spec.proofs.laws.outlines_judge_journals.Goals as goal

pub returns : goal.returns
returns c = record {
  takes = takes;
  took = took;
  suffice = all_suffice;
  needed = all_needed;
}
