use Rattle.rrd_spec.proofs.Common.{refl, finished, unfinished, content_listed, kept_rows, seconds_of, steps_of, parts_of, row_parts, rows_of, row_parts_of, verdict_within}
use Rattle.rrd_spec.proofs.laws.examples.Goals as goal

pub returns : goal.returns
unfolding finished unfinished content_listed seconds_of steps_of parts_of rows_of row_parts row_parts_of kept_rows verdict_within
returns c = record {
  two = refl;
  heartbeat = refl;
  shared = refl;
  shrunk = refl;
  manual = refl;
  by_time = refl;
  shrink_and_grow = (refl, refl, refl, refl, refl);
  two_places = (refl, refl);
  refused_whole = (refl, refl, refl, refl);
  retyped = (refl, refl, refl, refl);
  bounded = (refl, refl, refl, refl, refl, refl);
}
