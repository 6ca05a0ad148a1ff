use Rattle.rrd_base.proofs.Common.{refl, ◌≡◌, ◌∙◌, ◌-◌, ◌++◌, ◌∷◌, [], suc, length, set, sym, ap, subst, arith, to_z-of_z, w128, Consolidating, Part, RraDef, Rra, Filed, IsRowPart, due, with_prep, Coming, IsCursor, IsRebuilding, coming, filed_in, set-get_or, AtPrep, at_prep, cursor_stays, last_prep, prep_came, prep_is, prep_keeps, prep_later}
use Rattle.rrd_base.proofs.rebuild.Rebuild.prep.Goals as goal

pub overflow_sub-last : goal.overflow_sub-last
overflow_sub-last c =
    let d = coming c.self.inside in
    let both = simp (to_z-of_z {w = w128} c.ranges.value) at c.in-Some.ensures.some in
    let at : AtPrep d both.0.def = at_prep d both.0.def c.self.invariant.came (ap due c.self.view_is ∙ both.0.is_due) in
    omega (arith, at.some)

pub get_mut-requires : goal.get_mut-requires
get_mut-requires c =
    let d = coming c.self.inside in
    let both = simp (to_z-of_z {w = w128} c.ranges.value) at c.in-Some.ensures.some in
    let at : AtPrep d both.0.def = at_prep d both.0.def c.self.invariant.came (ap due c.self.view_is ∙ both.0.is_due) in
    omega (arith, at.some)

pub push_prep-requires : goal.push_prep-requires
push_prep-requires c =
    let d = coming c.self.inside in
    let both = simp (to_z-of_z {w = w128} c.ranges.value) at c.in-Some.ensures.some in
    let at : AtPrep d both.0.def = at_prep d both.0.def c.self.invariant.came (ap due c.self.view_is ∙ both.0.is_due) in
    let count : length d.archives ≡ suc (c.len-last.result - 1) = omega (arith, at.some) in
    let last = last_prep d c.get_mut.result.now (c.len-last.result - 1) both.0.def c.self.invariant.came count c.get_mut.ensures.value at.is in
    ap (λ (p : Consolidating). p.function) both.1 ∙ ap (λ (def : RraDef). def.function) (sym last.1)

pub invariant_of-self : goal.invariant_of-self
invariant_of-self c =
    let d = coming c.self.inside in
    let i = c.len-last.result - 1 in
    let same : set d.archives i c.push_prep.new.self ≡ d.archives = ap (set d.archives i) (c.in_err-push_prep.ensures.err ∙ c.get_mut.ensures.value) ∙ set-get_or d.archives i c.get_mut.result.now in
    let path : d ≡ record d { archives = set d.archives i c.push_prep.new.self } = λ j. record d { archives = sym same j } in
    record { came = subst IsRebuilding path c.self.invariant.came; cursor_is = subst (λ (e : Coming). IsCursor e c.self.inside.cursor) path c.self.invariant.cursor_is }

pub invariant_of-self-2 : goal.invariant_of-self-2
invariant_of-self-2 c =
    let d = coming c.self.inside in
    let both = simp (to_z-of_z {w = w128} c.ranges.value) at c.in-Some.ensures.some in
    let at : AtPrep d both.0.def = at_prep d both.0.def c.self.invariant.came (ap due c.self.view_is ∙ both.0.is_due) in
    let x = c.get_mut.result.now in
    let count : length d.archives ≡ suc (c.len-last.result - 1) = omega (arith, at.some) in
    let part : Part = record { known = c.args.known; value = c.args.value } in
    let pushed : c.push_prep.new.self ≡ record x { parts = x.parts ++ part ∷ [] } = c.in_ok-push_prep.ensures.ok ∙ ap (λ (p : Consolidating). let a : Rra = record x { parts = x.parts ++ p.part ∷ [] } in a) both.1 in
    let path : prep_came d (c.len-last.result - 1) x part ≡ record d { archives = set d.archives (c.len-last.result - 1) c.push_prep.new.self } = λ i. record d { archives = set d.archives (c.len-last.result - 1) (sym pushed i) } in
    let part_is : IsRowPart d.step d.last both.0.def part = subst (λ (f : Filed). IsRowPart f.header.step f.header.last both.0.def part) (sym c.self.view_is) both.0.part_is in
    record {
      came = subst IsRebuilding path (prep_keeps d (c.len-last.result - 1) x both.0.def part c.self.invariant.came count c.get_mut.ensures.value at.is part_is);
      cursor_is = cursor_stays d (record d { archives = set d.archives (c.len-last.result - 1) c.push_prep.new.self }) c.self.inside.cursor refl (prep_later d both.0.def c.self.invariant.came at.is).filled c.self.invariant.cursor_is;
    }

pub returns-clause-ok : goal.returns-clause-ok
returns-clause-ok c =
    let d = coming c.self.inside in
    let both = simp (to_z-of_z {w = w128} c.ranges.value) at c.in-Some.ensures.some in
    let at : AtPrep d both.0.def = at_prep d both.0.def c.self.invariant.came (ap due c.self.view_is ∙ both.0.is_due) in
    let x = c.get_mut.result.now in
    let count : length d.archives ≡ suc (c.len-last.result - 1) = omega (arith, at.some) in
    let part : Part = record { known = c.args.known; value = c.args.value } in
    let pushed : c.push_prep.new.self ≡ record x { parts = x.parts ++ part ∷ [] } = c.in_ok-push_prep.ensures.ok ∙ ap (λ (p : Consolidating). let a : Rra = record x { parts = x.parts ++ p.part ∷ [] } in a) both.1 in
    let path : prep_came d (c.len-last.result - 1) x part ≡ record d { archives = set d.archives (c.len-last.result - 1) c.push_prep.new.self } = λ i. record d { archives = set d.archives (c.len-last.result - 1) (sym pushed i) } in
    (both.0, ap filed_in (sym path) ∙ (prep_is d (c.len-last.result - 1) x both.0.def part c.self.invariant.came count c.get_mut.ensures.value at.is ∙ ap (λ f. with_prep f part) c.self.view_is))
