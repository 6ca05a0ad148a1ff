use Rattle.rrd_base.proofs.Common.{◌∙◌, ap, choice_within, choice_of, definitions, Stored, present}
use Rattle.rrd_base.proofs.database.Database.choose_for.Goals as goal

pub returns : goal.returns
unfolding choice_within
returns c =
    c.choose.ensures ∙ ap (λ (k : Stored). choice_of present k.content.step k.content.last (definitions k.content.archives) c.args.request) c.self.view_is
