use Rattle.rrd_base.proofs.Common.{◌∙◌, ap, TuningBy, Content, settings, first_refusal, tune_checks, verdict, verdict_within, present}
use Rattle.rrd_base.proofs.content.Content.check_tune.Goals as goal

pub returns : goal.returns
unfolding verdict_within
returns c =
    let tuning = c.args.tuning.now in
    c.check_tune.ensures
    ∙ ap (λ sources. first_refusal (tune_checks present (settings sources c.as_slice.result.now) tuning)) c.deref.ensures.value
    ∙ ap (λ archives. first_refusal (tune_checks present (settings c.self.inside.sources.items archives) tuning)) c.as_slice.ensures
    ∙ ap (λ (x : Content). verdict x (TuningBy tuning)) c.self.view_is
