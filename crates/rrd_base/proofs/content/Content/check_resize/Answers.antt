use Rattle.rrd_base.proofs.Common.{◌∙◌, ap, Resizing, Content, settings, first_refusal, resize_checks, verdict, verdict_within, present}
use Rattle.rrd_base.proofs.content.Content.check_resize.Goals as goal

pub returns : goal.returns
unfolding verdict_within
returns c =
    let archive = c.args.archive in
    let change = c.args.change in
    let rows = c.args.rows in
    c.check_resize.ensures
    ∙ ap (λ sources. first_refusal (resize_checks present (settings sources c.as_slice.result.now) archive change rows)) c.deref.ensures.value
    ∙ ap (λ archives. first_refusal (resize_checks present (settings c.self.inside.sources.items archives) archive change rows)) c.as_slice.ensures
    ∙ ap (λ (x : Content). verdict x (Resizing archive change rows)) c.self.view_is
