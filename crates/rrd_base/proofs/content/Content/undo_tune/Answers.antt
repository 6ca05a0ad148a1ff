use Rattle.rrd_base.proofs.Common.{◌≡◌, sym, ◌∙◌, ap, subst, arith, with_items, with_items_is, Content, TuneEntry, undone, content_of, with_raws, with_sources, IsValid, sources_put_back, settings_are}
use Rattle.rrd_base.proofs.content.Content.undo_tune.Goals as goal

pub invariant_of-self : goal.invariant_of-self
invariant_of-self c =
    let d = c.self.inside in
    let X : Content = content_of d in
    let olds = c.args.kept.now.items in
    let sources : (with_items d.sources c.put_back.new.all).items ≡ with_sources d.sources.items olds = cc (with_items_is d.sources c.put_back.new.all (omega (arith, c.put_back.auto.all, c.deref_mut.ensures.len)), c.put_back.ensures, c.deref_mut.ensures.value, c.as_slice.ensures.value) in
    let raws : (with_items d.raws c.put_back-2.new.all).items ≡ with_raws d.raws.items olds = cc (with_items_is d.raws c.put_back-2.new.all (omega (arith, c.put_back-2.auto.all, c.deref_mut-2.ensures.len)), c.put_back-2.ensures, c.deref_mut-2.ensures.value, c.as_slice-2.ensures.value) in
    let same = settings_are X (with_items d.sources c.put_back.new.all).items (with_items d.raws c.put_back-2.new.all).items (with_sources d.sources.items olds) (with_raws d.raws.items olds) sources raws ∙ sym (sources_put_back X olds) in
    subst IsValid (sym same) (subst (λ (x : Content). IsValid (undone x (TuneEntry olds))) (sym c.self.view_is) c.requires)

pub returns : goal.returns
returns c =
    let d = c.self.inside in
    let X : Content = content_of d in
    let olds = c.args.kept.now.items in
    let sources : (with_items d.sources c.put_back.new.all).items ≡ with_sources d.sources.items olds = cc (with_items_is d.sources c.put_back.new.all (omega (arith, c.put_back.auto.all, c.deref_mut.ensures.len)), c.put_back.ensures, c.deref_mut.ensures.value, c.as_slice.ensures.value) in
    let raws : (with_items d.raws c.put_back-2.new.all).items ≡ with_raws d.raws.items olds = cc (with_items_is d.raws c.put_back-2.new.all (omega (arith, c.put_back-2.auto.all, c.deref_mut-2.ensures.len)), c.put_back-2.ensures, c.deref_mut-2.ensures.value, c.as_slice-2.ensures.value) in
    settings_are X (with_items d.sources c.put_back.new.all).items (with_items d.raws c.put_back-2.new.all).items (with_sources d.sources.items olds) (with_raws d.raws.items olds) sources raws
    ∙ sym (sources_put_back X olds) ∙ ap (λ (x : Content). undone x (TuneEntry olds)) c.self.view_is
