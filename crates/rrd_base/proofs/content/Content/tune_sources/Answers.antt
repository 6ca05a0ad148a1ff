use Rattle.rrd_base.proofs.Common.{◌≡◌, sym, ◌∙◌, ap, map, length, arith, with_items, with_items_is, Content, raws_under, TuningBy, moved, tuned, content_of, base_of_valid, length-accepted, settings_are}
use Rattle.rrd_base.proofs.content.Content.tune_sources.Goals as goal

pub tune_all-requires : goal.tune_all-requires
tune_all-requires c =
    let d = c.self.inside in
    ap length c.deref_mut-2.ensures.value ∙ length-accepted d.sources.items d.raws.items c.self.invariant.raws_are ∙ sym (ap length c.deref_mut.ensures.value)

pub returns : goal.returns
returns c =
    let d = c.self.inside in
    let X : Content = content_of d in
    let t = c.args.tuning.now in
    let f = tuned t in
    let sources : (with_items d.sources c.tune_all.new.sources).items ≡ map f d.sources.items = cc (with_items_is d.sources c.tune_all.new.sources (omega (arith, c.tune_all.auto.sources, c.deref_mut.ensures.len)), c.tune_all.ensures.sources, c.deref_mut.ensures.value) in
    let raws : (with_items d.raws c.tune_all.new.raws).items ≡ raws_under d.sources.items (map f d.sources.items) d.raws.items = cc (with_items_is d.raws c.tune_all.new.raws (omega (arith, c.tune_all.auto.raws, c.deref_mut-2.ensures.len)), c.tune_all.ensures.raws, c.deref_mut.ensures.value, c.deref_mut-2.ensures.value) in
    settings_are X (with_items d.sources c.tune_all.new.sources).items (with_items d.raws c.tune_all.new.raws).items (map f d.sources.items) (raws_under d.sources.items (map f d.sources.items) d.raws.items) sources raws
    ∙ sym (c.tune_changes_sources.ensures X t (base_of_valid X c.self.invariant) c.requires.alone)
    ∙ ap (λ (x : Content). moved x (TuningBy t)) c.self.view_is
