use Rattle.rrd_base.proofs.Common.{◌≡◌, sym, ◌∙◌, ap, subst, ℕ, ◌+◌, ◌*◌, ◌/◌, ◌<◌, ◌≤◌, replicate, length, arith, fold, with_items, with_items_is, Average, with_each, Content, passed, IsRow, content_of, leaves, stays}
use Rattle.rrd_base.proofs.content.Content.pass_within_step.Goals as goal

pub invariant_of-self : goal.invariant_of-self
invariant_of-self c =
    let d = c.self.inside in
    let is = c.self.invariant in
    let n : ℕ = c.args.seconds in
    let rates = c.args.walk.now.rates.items in
    let within = subst (λ (z : Content). z.last + n < (z.last / z.step + 1) * z.step) (sym c.self.view_is) c.requires.within in
    let in_time = subst (λ (z : Content). z.last + n ≤ 9999999999) (sym c.self.view_is) c.requires.in_time in
    let row = subst (λ (z : Content). IsRow (length z.sources) rates) (sym c.self.view_is) c.requires.rates_are in
    let written : (with_items d.preps c.add_seconds.new.preps).items ≡ c.add_seconds.new.preps = with_items_is d.preps c.add_seconds.new.preps (omega (arith, d.preps.ok.0)) in
    let added : (with_items d.preps c.add_seconds.new.preps).items ≡ fold (with_each Average) d.preps.items (replicate n rates) = cc (written, c.add_seconds.ensures.added, c.deref_mut.ensures.value, c.deref.ensures.value) in
    let now = leaves c.seconds_pass_within_a_step.ensures (content_of d) n rates (with_items d.preps c.add_seconds.new.preps).items is within added in
    stays c.seconds_stay_valid.ensures.content (content_of d) _ n rates is row in_time now

pub returns-clause-value : goal.returns-clause-value
returns-clause-value c =
    let d = c.self.inside in
    let n : ℕ = c.args.seconds in
    let rates = c.args.walk.now.rates.items in
    let within = subst (λ (z : Content). z.last + n < (z.last / z.step + 1) * z.step) (sym c.self.view_is) c.requires.within in
    let written : (with_items d.preps c.add_seconds.new.preps).items ≡ c.add_seconds.new.preps = with_items_is d.preps c.add_seconds.new.preps (omega (arith, d.preps.ok.0)) in
    let added : (with_items d.preps c.add_seconds.new.preps).items ≡ fold (with_each Average) d.preps.items (replicate n rates) = cc (written, c.add_seconds.ensures.added, c.deref_mut.ensures.value, c.deref.ensures.value) in
    leaves c.seconds_pass_within_a_step.ensures (content_of d) n rates (with_items d.preps c.add_seconds.new.preps).items c.self.invariant within added ∙ ap (λ (x : Content). passed x (replicate n rates)) c.self.view_is
