use Rattle.rrd_base.proofs.Common.{◌≡◌, ℕ, sym, ◌∙◌, ap, subst, ◌+◌, ◌++◌, take, drop, map, suc, length, set, get_or, ◌<◌, arith, AllByRecursion, IsBounded, Part, nothing, step_cell, All-take-set, map_more, map_next, map_all, map-same}
use Rattle.rrd_base.proofs.walk.preparations.close_steps.Goals as goal

pub loop-i-preserved : goal.loop-i-preserved
loop-i-preserved c =
    let i = c.loop-i.i in
    let old = c.args.preps.now in
    let cells = c.args.cells.now in
    let f = step_cell c.args.step in
    let g = λ (p : Part). nothing in
    let d = c.index-preps-i.result in
    let within : i < length old = omega arith in
    let place : i < length cells = omega (arith, c.requires.places) in
    let left : i < length c.loop-i.cells = omega (arith, c.requires.places) in
    let was = c.loop-i.invariant in
    let here : get_or c.loop-i.preps i d ≡ get_or old i d = ap (λ ps. get_or ps i d) was.anew ∙ map_next g old old i d within within in
    let P = λ (k : ℕ). AllByRecursion IsBounded (take k (set c.loop-i.cells i c.new.result)) in
    record {
      cells = ap (λ ys. set ys i c.new.result) was.cells
          ∙ map_more f old cells i d c.new.result within place (c.new.ensures ∙ c.close.ensures.value ∙ ap f here)
          ∙ ap (λ k. map f (take k old) ++ drop k cells) {x = suc i} {y = i + 1} (omega arith);
      bounded = subst P {x = suc i} {y = i + 1} (omega arith) (All-take-set IsBounded c.loop-i.cells i c.new.result left was.bounded (subst IsBounded (sym c.new.ensures) c.close.ensures.bounded));
      anew = ap (λ ps. set ps i c.close.new.self) was.anew
          ∙ map_more g old old i d c.close.new.self within within c.close.ensures.anew
          ∙ ap (λ k. map g (take k old) ++ drop k old) {x = suc i} {y = i + 1} (omega arith);
      ticked = omega (arith, was.ticked);
    }

pub returns-clause-anew : goal.returns-clause-anew
returns-clause-anew c =
    let old = c.args.preps.now in
    c.loop-i.invariant.anew ∙ map_all (λ (p : Part). nothing) old old c.loop-i.i (omega arith) (omega arith) ∙ map-same nothing old
