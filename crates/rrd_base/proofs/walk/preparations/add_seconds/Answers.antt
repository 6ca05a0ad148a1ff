use Rattle.rrd_base.proofs.Common.{◌≡◌, sym, ◌∙◌, ap, ◌+◌, ◌++◌, take, drop, suc, ℕ, replicate, length, set, get_or, ◌<◌, arith, get_or_read, fold, Cell, Part, Average, map_each, fold-with_each, map_each_more, map_each_next, map_each_all}
use Rattle.rrd_fixed.specs.declared.cell.Cell.TheVariants.{Unknown}
use Rattle.rrd_fold.specs.Parts.{with_cell}
use Rattle.rrd_base.proofs.walk.preparations.add_seconds.Goals as goal

pub loop-i-preserved : goal.loop-i-preserved
loop-i-preserved c =
    let i = c.loop-i.i in
    let old = c.args.preps.now in
    let rates = c.args.rates.now in
    let n : ℕ = c.args.seconds in
    let f = λ (p : Part) (x : Cell). fold (with_cell Average) p (replicate n x) in
    let d = c.index-preps-i.result in
    let was = c.loop-i.invariant.added in
    let within : i < length old = omega arith in
    let within_rates : i < length rates = omega (arith, c.requires.row.one_each) in
    let here : get_or c.loop-i.preps i d ≡ get_or old i d = ap (λ ps. get_or ps i d) was ∙ map_each_next f old rates i d within within_rates in
    let step : c.add.new.self ≡ f (get_or old i d) (get_or rates i Unknown) = c.add.ensures.added ∙ ap (f (get_or c.loop-i.preps i d)) (c.cell.ensures ∙ get_or_read rates i c.index-rates-i.result within_rates c.index-rates-i.is Unknown) ∙ ap (λ p. f p (get_or rates i Unknown)) here in
    record {
      added = ap (λ ps. set ps i c.add.new.self) was
          ∙ map_each_more f old rates i c.add.new.self d Unknown within within_rates step
          ∙ ap (λ k. map_each f (take k old) (take k rates) ++ drop k old) {x = suc i} {y = i + 1} (omega arith);
      ticked = omega (arith, c.loop-i.invariant.ticked);
    }

pub returns-clause-added : goal.returns-clause-added
returns-clause-added c =
    let old = c.args.preps.now in
    let rates = c.args.rates.now in
    let n : ℕ = c.args.seconds in
    let f = λ (p : Part) (x : Cell). fold (with_cell Average) p (replicate n x) in
    c.loop-i.invariant.added ∙ map_each_all f old rates c.loop-i.i (omega arith) (omega (arith, c.requires.row.one_each)) ∙ sym (fold-with_each Average n old rates)
