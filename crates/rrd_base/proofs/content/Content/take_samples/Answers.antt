use Rattle.rrd_base.proofs.Common.{◌≡◌, sym, ◌∙◌, ap, subst, ◌+◌, ◌≤◌, [], ◌∷◌, length, map, drop, get_or, arith, AllByRecursion, DsDef, with_items_is, drop_all, Content, Reading, Sampled, definitions, content_listed, sample_of, value_for, raw_of, in_all, least_of_sample, most_of_sample, template_of, sample_checks, sample_leaves, turns_next, same_least, same_most, base_of_valid, with_items, HasPlaces, few_turns, one_taken, later_sample, accepted_raws, drop_here, present}
use Rattle.rrd_spec.specs.Laws.Commands.{Passes}
use Rattle.rrd_base.proofs.content.Content.take_samples.Goals as goal

pub take_sample-requires-clause-accepted : goal.take_sample-requires-clause-accepted
take_sample-requires-clause-accepted c =
    let X = c.args.self.now in
    let was = c.loop-sample.invariant in
    let asked = c.args.update.now.template in
    let template = template_of X.sources asked in
    let sample = c.sample-item.result in
    let S = c.deref.result.now in
    let raws = c.raws_into.new.raws in
    let given = (with_items c.loop-sample.walk.raws raws).items in
    let sources : S ≡ X.sources = c.deref.ensures.value ∙ ap (λ (x : Content). x.sources) c.self.view_is ∙ was.same_sources in
    let values = c.as_slice-values.result.now in
    let raws_are : raws ≡ map (λ (source : DsDef). raw_of source.kind (value_for template sample.values source)) X.sources
    = c.raws_into.ensures.value
    ∙ ap (λ asked. map (λ (source : DsDef). raw_of source.kind (value_for (template_of S asked) values source)) S) c.requires.template
    ∙ ap (λ ss. map (λ (source : DsDef). raw_of source.kind (value_for (template_of ss asked) values source)) ss) sources
    ∙ ap (λ vs. map (λ (source : DsDef). raw_of source.kind (value_for template vs source)) X.sources) c.as_slice-values.ensures in
    let written : given ≡ raws = with_items_is c.loop-sample.walk.raws raws (omega (arith, c.raws_into.auto.raws, c.deref_mut.ensures.len)) in
    accepted_raws c.raw_values_are_accepted.ensures c.loop-sample.self X.sources template sample.values given was.same_sources (written ∙ raws_are)

pub take_sample-requires-clause-turns : goal.take_sample-requires-clause-turns
take_sample-requires-clause-turns c =
    let now = c.loop-sample.self in
    let was = c.loop-sample.invariant in
    let in_time : now.last ≤ 9999999999 = was.valid.good_time in
    omega (arith, was.few, (few_turns now now.last c.sample-item.result.time was.valid), in_time)

pub loop-sample-preserved : goal.loop-sample-preserved
loop-sample-preserved c =
    let X = c.args.self.now in
    let now = c.loop-sample.self in
    let was = c.loop-sample.invariant in
    let asked = c.args.update.now.template in
    let template = template_of X.sources asked in
    let sample = c.sample-item.result in
    let S = c.deref.result.now in
    let raws = c.raws_into.new.raws in
    let given = (with_items c.loop-sample.walk.raws raws).items in
    let sources : S ≡ X.sources = c.deref.ensures.value ∙ ap (λ (x : Content). x.sources) c.self.view_is ∙ was.same_sources in
    let values = c.as_slice-values.result.now in
    let raws_are : raws ≡ map (λ (source : DsDef). raw_of source.kind (value_for template sample.values source)) X.sources
    = c.raws_into.ensures.value
    ∙ ap (λ asked. map (λ (source : DsDef). raw_of source.kind (value_for (template_of S asked) values source)) S) c.requires.template
    ∙ ap (λ ss. map (λ (source : DsDef). raw_of source.kind (value_for (template_of ss asked) values source)) ss) sources
    ∙ ap (λ vs. map (λ (source : DsDef). raw_of source.kind (value_for template vs source)) X.sources) c.as_slice-values.ensures in
    let written : given ≡ raws = with_items_is c.loop-sample.walk.raws raws (omega (arith, c.raws_into.auto.raws, c.deref_mut.ensures.len)) in
    let all = c.args.update.now.samples in
    let i = c.loop-sample.sample-index in
    let same_list = c.as_slice-sample-items.ensures in
    let here : drop i all ≡ sample ∷ drop (i + 1) all = drop_here all i sample (omega (arith, ap length same_list)) (c.sample-item.is ∙ ap (λ zs. get_or zs i sample) same_list) in
    let next = c.take_sample.new.self in
    let moved_is : next ≡ content_listed now (Sampled (sample_of X.sources template sample) ∷ [])
    = c.take_sample.ensures.value ∙ ap (λ rs. let r : Reading = record { time = sample.time; raws = rs } in content_listed now (Sampled r ∷ [])) (written ∙ raws_are) in
    let pass = subst (λ zs. AllByRecursion Passes (sample_checks present X.sources template now.last zs)) here was.pass in
    let taken = one_taken c.content_goes_on.ensures.by_list now next X.sources template sample (drop (i + 1) all) was.valid was.same_sources pass moved_is in
    let later = later_sample X.sources template now.last sample (drop (i + 1) all) pass in
    let shape = sample_leaves c.sample_passes.ensures now next (let r : Reading = record { time = sample.time; raws = given } in r) (base_of_valid now was.valid) later c.take_sample.ensures.value in
    let least = least_of_sample (length X.sources) X.step (definitions X.archives) in
    let most = most_of_sample (length X.sources) X.step (definitions X.archives) in
    let low = turns_next least now.last next.last (drop i all) (drop (i + 1) all) sample here taken.last_is in
    let high = turns_next most now.last next.last (drop i all) (drop (i + 1) all) sample here taken.last_is in
    record {
      comes_to = sym taken.comes_to ∙ ap (λ zs. content_listed now (map Sampled (map (sample_of X.sources template) zs))) (sym here) ∙ was.comes_to;
      pass = taken.pass;
      same_sources = taken.same_sources ∙ was.same_sources;
      valid = c.take_sample.ensures.valid;
      from = omega (arith, was.from, taken.last_is, later);
      places = subst (λ ss. HasPlaces c.take_sample.new.walk (length ss)) was.same_sources c.take_sample.ensures.places;
      same_shape = record { step = shape.step ∙ was.same_shape.step; defs = shape.defs ∙ was.same_shape.defs };
      least = omega (arith, was.least, low, (same_least X now now.last sample.time was.same_sources was.same_shape), c.take_sample.ensures.least);
      most = omega (arith, was.most, high, (same_most X now now.last sample.time was.same_sources was.same_shape), c.take_sample.ensures.most);
      few = omega (arith, was.few, was.from, c.take_sample.ensures.most, few_turns now now.last sample.time was.valid, taken.last_is, later);
    }

pub returns : goal.returns
returns c =
    let X = c.args.self.now in
    let was = c.loop-sample.invariant in
    let all = c.args.update.now.samples in
    let none : drop c.loop-sample.sample-index all ≡ [] = drop_all c.loop-sample.sample-index all (omega (arith, ap length c.as_slice-sample-items.ensures)) in
    let least = least_of_sample (length X.sources) X.step (definitions X.archives) in
    let most = most_of_sample (length X.sources) X.step (definitions X.archives) in
    record {
      value = sym (ap (λ zs. content_listed c.loop-sample.self (map Sampled (map (sample_of X.sources (template_of X.sources c.args.update.now.template)) zs))) none ∙ c.content_stays_without_events.ensures c.loop-sample.self (base_of_valid c.loop-sample.self was.valid)) ∙ was.comes_to;
      turns = record {
        least = omega (arith, was.least, (ap (in_all least c.loop-sample.self.last) none));
        most = omega (arith, was.most, (ap (in_all most c.loop-sample.self.last) none));
      };
    }
