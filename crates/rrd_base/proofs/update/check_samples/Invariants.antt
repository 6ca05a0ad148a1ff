use Rattle.rrd_base.proofs.Common.{◌≡◌, drop, first_refusal, sample_checks, template_of, present}
use Rattle.rrd_base.proofs.update.check_samples.Given as goal

abbrev pub invariant-loop-sample : goal.invariant-loop-sample
invariant-loop-sample l = first_refusal (sample_checks present l.sources (template_of l.sources l.columns.template.now) l.last (drop l.sample-index l.samples)) ≡ first_refusal (sample_checks present l.sources (template_of l.sources l.columns.template.now) l.fn.last l.samples)
