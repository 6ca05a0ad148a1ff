use Rattle.rrd_base.proofs.Common.{◌≡◌, ◌∙◌, ap, suc, ◌+◌, ◌++◌, ◌<◌, map, take, drop, set, get_or, length, arith, raws_under, get_or_default, map_more, map_next, raws_more, raws_next}
use Rattle.rrd_fixed.specs.declared.raw.Raw.TheVariants.{Unknown}
use Rattle.rrd_spec.specs.Commands as commands
use Rattle.rrd_base.proofs.tune.tune_all.Goals as goal

pub loop-number-preserved : goal.loop-number-preserved
loop-number-preserved c =
    let i = c.loop-number.number in
    let sources = c.args.sources.now in
    let raws = c.args.raws.now in
    let f = commands.tuned c.args.tuning.now in
    let d = c.index-sources-number.result in
    let was = c.loop-number.invariant in
    let within : i < length sources = omega arith in
    let same : get_or c.loop-number.sources i d ≡ get_or sources i d = ap (λ zs. get_or zs i d) was.sources_are ∙ map_next f sources sources i d within within in
    let new : c.settings_after-new.result ≡ f (get_or sources i d) = c.settings_after-new.ensures ∙ ap f same in
    let e = c.index-sources-number-in-loop-number.result in
    let again : get_or c.loop-number.sources i e ≡ get_or sources i d = ap (λ zs. get_or zs i e) was.sources_are ∙ map_next f sources sources i e within within ∙ get_or_default sources i e d within in
    let raw : get_or c.loop-number.raws i Unknown ≡ get_or raws i Unknown = ap (λ zs. get_or zs i Unknown) was.raws_are ∙ raws_next f sources raws i Unknown in
    let under : c.raw_under.result ≡ commands.raw_under (get_or sources i d).kind (f (get_or sources i d)).kind (get_or raws i Unknown) = cc (c.raw_under.ensures, again, new, raw) in
    record {
      sources_are = ap (λ zs. set zs i c.settings_after-new.result) was.sources_are
          ∙ map_more f sources sources i d c.settings_after-new.result within within new
          ∙ ap (λ k. map f (take k sources) ++ drop k sources) {x = suc i} {y = i + 1} (omega arith);
      raws_are = ap (λ zs. set zs i c.raw_under.result) was.raws_are
          ∙ raws_more f sources raws i d Unknown c.raw_under.result within c.requires under
          ∙ ap (λ k. raws_under (take k sources) (map f (take k sources)) raws) {x = suc i} {y = i + 1} (omega arith);
    }
