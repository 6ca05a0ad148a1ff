use Rattle.rrd_base.proofs.Common.{sym, ◌∙◌, ap, suc, ◌+◌, ◌++◌, map, take, drop, set, length, ◌<◌, arith, DsDef, raw_of, value_for, template_of, map_more}
use Rattle.rrd_base.proofs.update.raws_into.Goals as goal

pub loop-number-preserved : goal.loop-number-preserved
loop-number-preserved c =
    let i = c.loop-number.number in
    let sources = c.args.sources.now in
    let f = λ (source : DsDef). raw_of source.kind (value_for (template_of sources c.args.columns.now.template.now) c.args.values.now source) in
    let within : i < length sources = omega arith in
    let within_raws : i < length c.args.raws.now = omega (arith, c.requires) in
    ap (λ rs. set rs i c.raw_of.result) c.loop-number.invariant
    ∙ map_more f sources c.args.raws.now i c.index-sources-number.result c.raw_of.result within within_raws (c.raw_of.ensures.value ∙ ap (raw_of c.index-sources-number.result.kind) (c.value.ensures ∙ c.requires.columns.indexes i c.index-sources-number.result c.args.values.now within ∙ ap (λ source. value_for (template_of sources c.args.columns.now.template.now) c.args.values.now source) (sym c.index-sources-number.is)) ∙ ap f c.index-sources-number.is)
    ∙ ap (λ k. map f (take k sources) ++ drop k c.args.raws.now) {x = suc i} {y = i + 1} (omega arith)
