use Rattle.rrd_base.proofs.Common.{sym, ◌∙◌, ap, subst, ◌<◌, length, get_or, Consolidating, nothing, Rra, Content, prep_at, prep_of_archive, Stored}
use Rattle.rrd_base.proofs.database.Database.row_prep.Goals as goal

pub returns : goal.returns
returns c =
    let d = c.content.inside in
    let there : c.args.archive < length d.archives = subst (λ (x : Content). c.args.archive < length x.archives) (sym (c.content.view_is ∙ ap (λ (k : Stored). k.content) c.self.view_is)) c.requires.archive_there in
    c.prep.ensures
    ∙ ap (λ (a : Rra). let p : Consolidating = record { function = a.def.function; part = get_or a.parts c.args.source nothing } in p) c.get.ensures
    ∙ prep_of_archive d.archives c.args.archive c.get.result.now c.args.source there
    ∙ ap (λ (x : Content). prep_at x c.args.archive c.args.source) (c.content.view_is ∙ ap (λ (k : Stored). k.content) c.self.view_is)
