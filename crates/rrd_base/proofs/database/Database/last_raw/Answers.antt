use Rattle.rrd_base.proofs.Common.{sym, ◌∙◌, ap, subst, ◌<◌, length, get_or, arith, get_or_default, length-accepted, Content, Stored}
use Rattle.rrd_fixed.specs.declared.raw.Raw.TheVariants.{Unknown}
use Rattle.rrd_base.proofs.database.Database.last_raw.Goals as goal

pub index-requires : goal.index-requires
index-requires c =
    let d = c.content.inside in
    let within : c.args.source < length d.sources.items = subst (λ (x : Content). c.args.source < length x.sources) (sym (c.content.view_is ∙ ap (λ (k : Stored). k.content) c.self.view_is)) c.requires in
    omega (arith, length-accepted d.sources.items d.raws.items c.content.invariant.raws_are, d.raws.ok.0)

pub returns : goal.returns
returns c =
    let d = c.content.inside in
    let within : c.args.source < length d.sources.items = subst (λ (x : Content). c.args.source < length x.sources) (sym (c.content.view_is ∙ ap (λ (k : Stored). k.content) c.self.view_is)) c.requires in
    c.index.ensures ∙ get_or_default d.raws.items c.args.source c.index.result.now Unknown (omega (arith, length-accepted d.sources.items d.raws.items c.content.invariant.raws_are))
    ∙ ap (λ (x : Content). get_or x.raws c.args.source Unknown) (c.content.view_is ∙ ap (λ (k : Stored). k.content) c.self.view_is)
