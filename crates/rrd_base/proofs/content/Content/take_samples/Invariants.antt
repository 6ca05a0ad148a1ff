use Rattle.rrd_base.proofs.Common.{◌≡◌, ◌+◌, ◌-◌, ◌*◌, ◌≤◌, length, map, drop, AllByRecursion, Sampled, definitions, content_listed, moved_listed, Updating, sample_of, HasPlaces, in_all, least_of_sample, most_of_sample, template_of, sample_checks, IsValid, SameShape, present}
use Rattle.rrd_spec.specs.Laws.Commands.{Passes}
use Rattle.rrd_base.proofs.content.Content.take_samples.Given as goal

abbrev pub invariant-loop-sample : goal.invariant-loop-sample
invariant-loop-sample l =
    let base = l.fn.self in
    let sources = base.sources in
    let template = template_of sources l.update.template in
    let left = drop l.sample-index l.update.samples in
    let least = least_of_sample (length sources) base.step (definitions base.archives) in
    let most = most_of_sample (length sources) base.step (definitions base.archives) in
    record {
      comes_to : content_listed l.self (map Sampled (map (sample_of sources template) left)) ≡ moved_listed base (Updating l.update);
      pass : AllByRecursion Passes (sample_checks present sources template l.self.last left);
      same_sources : l.self.sources ≡ sources;
      same_shape : SameShape base l.self;
      valid : IsValid l.self;
      from : base.last ≤ l.self.last;
      places : HasPlaces l.walk (length sources);
      least : in_all least base.last l.update.samples ≤ l.walk.meter + in_all least l.self.last left;
      most : l.walk.meter + in_all most l.self.last left ≤ in_all most base.last l.update.samples;
      few : l.walk.meter ≤ 9000000 * (l.self.last - base.last);
    }
