use Rattle.rrd_spec.proofs.Common.{refl, finished, unfinished, content_listed, kept_rows, seconds_of, steps_of, parts_of, row_parts, rows_of, row_parts_of, create_verdict_within, choice_within}
use Rattle.rrd_spec.proofs.laws.examples_by_time.Goals as goal

pub returns : goal.returns
unfolding finished unfinished content_listed seconds_of steps_of parts_of rows_of row_parts row_parts_of kept_rows create_verdict_within choice_within
returns c = record {
  created = (refl, refl, refl, refl, refl, refl, refl, refl, refl, refl, refl, refl);
  resizing = (refl, refl);
  fetched = (refl, refl, refl, refl, refl, refl, refl, refl);
  oldest = (refl, refl, refl, refl);
}
