-- An update, sample by sample.
use Rattle.std.specs.Prelude.{◌≡◌, ℕ, ◌<◌, List, [], ◌∷◌, map}
use Rattle.rrd_base.proofs.Names.{refl, sym, ◌∙◌, ap, subst, arith, nat_tests, AllByRecursion, Raw, Name, DsDef, Sample, Given, Content, Event, Moment, Sampled, moment_of, moment_at_end, content_listed, raw_of, value_for, sample_of, sample_checks, IsValid, AreAccepted, AreKept, GoesOnListed, readings_rise, base_of_valid, present}
use Rattle.rrd_spec.specs.Laws.Commands.{Passes}

-- the content after a sample, and those that are left
pub record Taken (now next : Content) (sources : List DsDef) (template : List Name) (sample : Sample) (rest : List Sample) : Type 0 where
  pub comes_to : content_listed now (map Sampled (map (sample_of sources template) (sample ∷ rest))) ≡ content_listed next (map Sampled (map (sample_of sources template) rest))
  pub pass : AllByRecursion Passes (sample_checks present sources template next.last rest)
  pub same_sources : next.sources ≡ now.sources
  pub last_is : next.last ≡ sample.time

moment_of-content : (base : Content) (es : List Event) → moment_of (content_listed base es) ≡ moment_at_end base es
unfolding content_listed
moment_of-content base es = refl

-- by the law of histories that are cut
pub one_taken : (goes_on : (base : Content) (first second : List Event) → GoesOnListed base first second) (now next : Content) (sources : List DsDef) (template : List Name) (sample : Sample) (rest : List Sample) → IsValid now → now.sources ≡ sources → AllByRecursion Passes (sample_checks present sources template now.last (sample ∷ rest)) → next ≡ content_listed now (Sampled (sample_of sources template sample) ∷ []) → Taken now next sources template sample rest
one_taken goes_on now next sources template sample rest is same pass e =
    let reading = sample_of sources template sample in
    let all = readings_rise sources template (moment_of now) (sample ∷ rest) pass in
    let after : moment_of (content_listed now (Sampled reading ∷ [])) ≡ moment_at_end now (Sampled reading ∷ []) = moment_of-content now (Sampled reading ∷ []) in
    let end : moment_of next ≡ moment_at_end now (Sampled reading ∷ []) = ap moment_of e ∙ after in
    let last : next.last ≡ sample.time = ap (λ (m : Moment). m.last) end in
    record {
      comes_to = goes_on now (Sampled reading ∷ []) (map Sampled (map (sample_of sources template) rest)) (base_of_valid now is) (all.0, tt) all.1
          ∙ ap (λ c. content_listed c (map Sampled (map (sample_of sources template) rest))) (sym e);
      pass = subst (λ t. AllByRecursion Passes (sample_checks present sources template t rest)) (sym last) pass.1.1.1.1;
      same_sources = ap (λ (m : Moment). m.sources) end;
      last_is = last;
    }

-- a sample's raw values are accepted, by the law of raw values
pub accepted_raws : (kept : (given : DsDef → Given) (sources : List DsDef) → AreKept given sources) (now : Content) (sources : List DsDef) (template : List Name) (values : List Given) (raws : List Raw) → now.sources ≡ sources → raws ≡ map (λ (source : DsDef). raw_of source.kind (value_for template values source)) sources → AreAccepted now.sources raws
accepted_raws kept now sources template values raws same e = subst (λ ss. AreAccepted ss raws) (sym same) (subst (AreAccepted sources) (sym e) (kept (value_for template values) sources))

pub later_sample : (sources : List DsDef) (template : List Name) (last : ℕ) (sample : Sample) (rest : List Sample) → AllByRecursion Passes (sample_checks present sources template last (sample ∷ rest)) → last < sample.time
later_sample sources template last sample rest pass = let h = pass.1.0 in grind (arith, nat_tests, h)
