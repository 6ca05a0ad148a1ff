use Rattle.rrd_spec.proofs.Common.{refl, arith, false, both_ways, finished, unfinished, seconds_of, steps_of, parts_of, row_parts, verdict_within}
use Rattle.rrd_spec.proofs.laws.examples_of_archives.Goals as goal

pub returns : goal.returns
unfolding finished unfinished seconds_of steps_of parts_of row_parts verdict_within
returns c = record {
  added = (refl, refl, refl, refl, refl, refl);
  removed = (refl, refl, refl, refl, refl, refl, refl);
  limits = (refl, refl, refl);
  versions = ((refl, omega arith), λ h. both_ways false refl h.0, λ h. omega (arith, h.1));
}
