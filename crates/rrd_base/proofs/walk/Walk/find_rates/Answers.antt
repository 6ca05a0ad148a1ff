use Rattle.rrd_base.proofs.Common.{◌≡◌, ℕ, sym, ◌∙◌, ap, subst, suc, ◌+◌, ◌++◌, ◌<◌, ◌≤◌, take, drop, length, set, get_or, arith, append-nil, AllByRecursion, with_item, get_or_read, take_all, drop_all, IsAccepted, IsBounded, DsDef, rates, All-take-set, length-accepted, accepted_at, rate_of, rates_more, Walk}
use Rattle.rrd_fixed.specs.declared.raw.Raw.TheVariants.{Unknown}
use Rattle.rrd_base.proofs.walk.Walk.find_rates.Goals as goal

pub bounds-old-i : goal.bounds-old-i
bounds-old-i c = omega (arith, length-accepted c.args.sources.now c.args.old.now c.requires.old_accepted)

pub rate-rate-requires-clause-old_accepted : goal.rate-rate-requires-clause-old_accepted
rate-rate-requires-clause-old_accepted c =
    let i = c.loop-i.i in
    subst (λ (source : DsDef). IsAccepted source.kind (get_or c.args.old.now i Unknown)) (sym c.index-sources-i.is)
    (accepted_at c.args.sources.now c.args.old.now i c.index-sources-i.result Unknown c.requires.old_accepted (omega arith) (omega (arith, length-accepted c.args.sources.now c.args.old.now c.requires.old_accepted)))

pub rate-rate-requires-clause-new_accepted : goal.rate-rate-requires-clause-new_accepted
rate-rate-requires-clause-new_accepted c =
    let i = c.loop-i.i in
    let d = c.index-sources-i.result in
    let walk = c.args.self.now in
    let same : c.loop-i.self.raws ≡ walk.raws = ap (λ (w : Walk). w.raws) c.loop-i.invariant.rest in
    let many = length-accepted c.args.sources.now walk.raws.items c.requires.new_accepted in
    let read : c.index.result.now ≡ get_or walk.raws.items i c.index.result.now = c.index.ensures ∙ ap (λ v. get_or v.items i c.index.result.now) same in
    let raw = get_or_read walk.raws.items i c.index.result.now (omega (arith, many)) read Unknown in
    subst (IsAccepted d.kind) (sym raw)
    (subst (λ (source : DsDef). IsAccepted source.kind (get_or walk.raws.items i Unknown)) (sym c.index-sources-i.is)
    (accepted_at c.args.sources.now walk.raws.items i d Unknown c.requires.new_accepted (omega arith) (omega (arith, many))))

pub loop-i-preserved : goal.loop-i-preserved
loop-i-preserved c =
    let i = c.loop-i.i in
    let n : ℕ = c.args.interval in
    let sources = c.args.sources.now in
    let old = c.args.old.now in
    let walk = c.args.self.now in
    let new = walk.raws.items in
    let cells = walk.rates.items in
    let d = c.index-sources-i.result in
    let cell = c.new.result in
    let was = c.loop-i.invariant in
    let within : i < length sources = omega arith in
    let within_old : i < length old = omega (arith, length-accepted sources old c.requires.old_accepted) in
    let within_new : i < length new = omega (arith, length-accepted sources new c.requires.new_accepted) in
    let place : i < length cells = omega (arith, c.requires.places.rates, walk.rates.ok.0) in
    let left : i < length c.loop-i.self.rates.items = omega (arith, c.loop-i.self.rates.ok.0, was.places) in
    let same : c.loop-i.self.raws ≡ walk.raws = ap (λ (w : Walk). w.raws) was.rest in
    let read : c.index.result.now ≡ get_or new i c.index.result.now = c.index.ensures ∙ ap (λ v. get_or v.items i c.index.result.now) same in
    let this = c.new.ensures
    ∙ c.rate-rate.ensures.value
    ∙ ap (λ source. rate_of n source (get_or old i Unknown) c.index.result.now) c.index-sources-i.is
    ∙ ap (rate_of n (get_or sources i d) (get_or old i Unknown)) (get_or_read new i c.index.result.now within_new read Unknown) in
    let P = λ (k : ℕ). AllByRecursion IsBounded (take k (set c.loop-i.self.rates.items i cell)) in
    record {
      value = ap (λ ys. set ys i cell) was.value
          ∙ rates_more sources n old new cells i d Unknown Unknown cell within within_old within_new place this
          ∙ ap (λ k. rates (take k sources) n (take k old) (take k new) ++ drop k cells) {x = suc i} {y = i + 1} (omega arith);
      bounded = subst P {x = suc i} {y = i + 1} (omega arith) (All-take-set IsBounded c.loop-i.self.rates.items i cell left was.bounded (subst IsBounded (sym c.new.ensures) c.rate-rate.ensures.bounded));
      places = was.places;
      rest = ap (λ (w : Walk). let v : Walk = record w { rates = with_item c.loop-i.self.rates i cell } in v) was.rest;
    }

pub returns-clause-value : goal.returns-clause-value
returns-clause-value c =
    let i = c.loop-i.i in
    let n : ℕ = c.args.interval in
    let sources = c.args.sources.now in
    let old = c.args.old.now in
    let walk = c.args.self.now in
    let new = walk.raws.items in
    let few : length sources ≤ i = omega arith in
    c.loop-i.invariant.value
    ∙ ap (λ zs. rates (take i sources) n (take i old) (take i new) ++ zs) (drop_all i walk.rates.items (omega (arith, c.requires.places.rates, walk.rates.ok.0)))
    ∙ append-nil (rates (take i sources) n (take i old) (take i new))
    ∙ ap (λ zs. rates zs n (take i old) (take i new)) (take_all i sources few)
    ∙ ap (λ zs. rates sources n zs (take i new)) (take_all i old (omega (arith, length-accepted sources old c.requires.old_accepted)))
    ∙ ap (rates sources n old) (take_all i new (omega (arith, length-accepted sources new c.requires.new_accepted)))
