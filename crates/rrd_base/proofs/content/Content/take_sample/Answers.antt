use Rattle.rrd_base.proofs.Common.{◌≡◌, sym, ◌∙◌, ap, subst, ◌-◌, replicate, length, arith, ℕ, Vec, length-accepted, base_of_valid, Content, Reading, rates, passed, AreAccepted, IsValid, content_of, leaves_of, Global, Raw, Walk, rules}
use Rattle.rrd_base.proofs.Catching.{with_raws}
use Rattle.rrd_base.proofs.content.Content.take_sample.Goals as goal

pub copy_from_slice-requires : goal.copy_from_slice-requires
copy_from_slice-requires c =
    let X = c.args.self.now in
    let raws = c.args.walk.now.raws.items in
    let left = leaves_of X c.catch_up.new.self (c.args.time - X.last) c.find_rates.new.self.rates.items c.catch_up.ensures.value in
    let copied : c.deref-3.result.now ≡ raws = c.deref-3.ensures.value ∙ ap (λ (v : Vec Raw Global). v.items) (c.catch_up.ensures.keeps.raws ∙ ap (λ (w : Walk). w.raws) c.find_rates.ensures.rest) in
    let valid : IsValid X = subst IsValid c.self.view_is c.self.invariant in
    let now = length-accepted X.sources raws c.requires.accepted in
    let then = length-accepted X.sources X.raws valid.raws_are in
    let same : length c.self-2.inside.raws.items ≡ length X.raws = ap (λ (x : Content). length x.raws) c.self-2.view_is ∙ ap length left.raws in
    omega (arith, c.self-2.inside.raws.ok.0, ap length copied)

pub invariant_of-self : goal.invariant_of-self
invariant_of-self c =
    let X = c.args.self.now in
    let raws = c.args.walk.now.raws.items in
    let left = leaves_of X c.catch_up.new.self (c.args.time - X.last) c.find_rates.new.self.rates.items c.catch_up.ensures.value in
    let copied : c.deref-3.result.now ≡ raws = c.deref-3.ensures.value ∙ ap (λ (v : Vec Raw Global). v.items) (c.catch_up.ensures.keeps.raws ∙ ap (λ (w : Walk). w.raws) c.find_rates.ensures.rest) in
    let sources : c.self-2.inside.sources.items ≡ X.sources = ap (λ (x : Content). x.sources) c.self-2.view_is ∙ left.sources in
    subst (λ rs. IsValid (record (content_of c.self-2.inside) { raws = rs })) (sym (c.copy_from_slice.ensures.items ∙ copied))
    (with_raws (content_of c.self-2.inside) raws c.self-2.invariant (subst (λ ss. AreAccepted ss raws) (sym sources) c.requires.accepted))

pub returns : goal.returns
returns c =
    let X = c.args.self.now in
    let raws = c.args.walk.now.raws.items in
    let left = leaves_of X c.catch_up.new.self (c.args.time - X.last) c.find_rates.new.self.rates.items c.catch_up.ensures.value in
    let copied : c.deref-3.result.now ≡ raws = c.deref-3.ensures.value ∙ ap (λ (v : Vec Raw Global). v.items) (c.catch_up.ensures.keeps.raws ∙ ap (λ (w : Walk). w.raws) c.find_rates.ensures.rest) in
    let time : ℕ = c.args.time in
    let second = c.find_rates.new.self.rates.items in
    let valid : IsValid X = subst IsValid c.self.view_is c.self.invariant in
    let reading : Reading = record { time = time; raws = raws } in
    let same : second ≡ rates X.sources (time - X.last) X.raws raws
    = subst (λ (x : Content). second ≡ rates x.sources (time - x.last) x.raws raws) c.self.view_is
    (c.find_rates.ensures.value ∙ ap (λ ss. rates ss (time - c.self.inside.last) c.deref-2.result.now raws) c.deref.ensures.value ∙ ap (λ rs. rates c.self.inside.sources.items (time - c.self.inside.last) rs raws) c.deref-2.ensures.value) in
    let sources : c.self-2.inside.sources.items ≡ X.sources = ap (λ (x : Content). x.sources) c.self-2.view_is ∙ left.sources in
    record {
      value =
          ap (λ rs. let y : Content = record (content_of c.self-2.inside) { raws = rs } in y) (c.copy_from_slice.ensures.items ∙ copied)
          ∙ ap (λ (x : Content). let y : Content = record x { raws = raws } in y) (c.self-2.view_is ∙ c.catch_up.ensures.value)
          ∙ ap (λ s. let y : Content = record (passed X (replicate (time - X.last) s)) { raws = raws } in y) same
          ∙ sym (c.sample_passes.ensures X reading (base_of_valid X valid) c.requires.later);
      valid =
          subst (λ rs. IsValid (record (content_of c.self-2.inside) { raws = rs })) (sym (c.copy_from_slice.ensures.items ∙ copied))
          (with_raws (content_of c.self-2.inside) raws c.self-2.invariant (subst (λ ss. AreAccepted ss raws) (sym sources) c.requires.accepted));
      places = search rules;
      least = search rules;
      most = search rules;
    }
