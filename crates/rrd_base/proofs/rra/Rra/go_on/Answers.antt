use Rattle.rrd_base.proofs.Common.{sym, ◌∙◌, ap, subst, ◌+◌, ◌≤◌, ℕ, List, replicate, arith, with_items_is, AllByRecursion, fold, Consolidating, Part, with_each, Rra, map_each, with_steps, AllOf, AllOf-with_steps, shown, goes_on, preps_fit}
use Rattle.rrd_base.proofs.rra.Rra.go_on.Goals as goal

pub add_steps-requires-clause-fits : goal.add_steps-requires-clause-fits
add_steps-requires-clause-fits c =
    let n : ℕ = c.args.count in
    let fits = subst (λ (x : Rra). AllByRecursion (λ (p : Part). p.known + n ≤ 1000000) x.parts) (sym c.self.view_is) c.requires.fits in
    subst (λ (preps : List Consolidating). AllByRecursion (λ (prep : Consolidating). prep.part.known + n ≤ 1000000) preps) (sym c.deref_mut.ensures.value)
    (preps_fit n 1000000 1000000 c.self.inside.preps.items (omega arith) fits)

pub invariant_of-self : goal.invariant_of-self
invariant_of-self c =
    let a = c.self.inside in
    let now = with_items_is a.preps c.add_steps.new.preps (omega arith) ∙ c.add_steps.ensures.added ∙ ap (λ preps. map_each (with_steps c.args.count) preps c.args.step.now) c.deref_mut.ensures.value in
    subst (AllOf a.def.function) (sym now) (AllOf-with_steps a.def.function c.args.count a.preps.items c.args.step.now c.self.invariant)

pub returns-clause-value : goal.returns-clause-value
returns-clause-value c =
    let a = c.self.inside in
    let step = c.args.step.now in
    let count : ℕ = c.args.count in
    let now = with_items_is a.preps c.add_steps.new.preps (omega arith) ∙ c.add_steps.ensures.added ∙ ap (λ preps. map_each (with_steps count) preps step) c.deref_mut.ensures.value in
    ap (λ preps. shown a.def preps a.rows) now
    ∙ goes_on a.def a.preps.items a.rows step count c.self.invariant
    ∙ ap (λ (x : Rra). let y : Rra = record x { parts = fold (with_each x.def.function) x.parts (replicate count step) } in y) c.self.view_is
