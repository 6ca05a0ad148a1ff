use Rattle.rrd_base.proofs.Common.{◌∙◌, ap, Updating, Content, first_refusal, update_checks, verdict, verdict_within, present}
use Rattle.rrd_base.proofs.content.Content.check_update.Goals as goal

pub returns-clause-refusal : goal.returns-clause-refusal
unfolding verdict_within
returns-clause-refusal c =
    let update = c.args.update.now in
    c.check_update.ensures.refusal ∙ ap (λ sources. first_refusal (update_checks present sources c.self.inside.last update)) c.deref.ensures.value
    ∙ ap (λ (x : Content). verdict x (Updating update)) c.self.view_is
