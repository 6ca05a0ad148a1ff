use Rattle.rrd_base.proofs.Common.{◌≡◌, ℕ, sym, ◌∙◌, ap, subst, suc, ◌+◌, ◌*◌, ◌^◌, ◌++◌, ◌<◌, take, drop, map, length, set, get_or, arith, mul-le, AllByRecursion, Rra, definitions, archive_passed, RraDef, rows_pushed, least_of_steps, most_of_steps, IsValidArchive, All-take-set, map_more, map_next, cells_of, count_of, sum_more, sum_within}
use Rattle.rrd_base.specs.Walk.{sources_of}
use Rattle.rrd_base.proofs.archives.take_all.Goals as goal

pub take-requires-clause-turns : goal.take-requires-clause-turns
take-requires-clause-turns c =
    let i = c.loop-i.i in
    let old = c.args.archives.now in
    let steps = c.args.steps.now in
    let before = steps.before in
    let count = count_of steps in
    let n = sources_of steps in
    let f = archive_passed n before (cells_of steps) in
    let d = c.index-archives-i.result in
    let within : i < length old = omega arith in
    let was = c.loop-i.invariant in
    let here : get_or c.loop-i.archives i d ≡ get_or old i d = ap (λ archives. get_or archives i d) was.value ∙ map_next f old old i d within within in
    let this = ap (λ (a : Rra). 4 + rows_pushed before count a.def) here in
    let more = sum_more (λ (def : RraDef). 4 + rows_pushed before count def) old i d within in
    let all = sum_within (λ (def : RraDef). 4 + rows_pushed before count def) old (i + 1) in
    let most = mul-le n (most_of_steps before count (definitions (take (i + 1) old))) n (most_of_steps before count (definitions old)) (omega arith) all in
    let split : n * most_of_steps before count (definitions (take (i + 1) old)) ≡ n * most_of_steps before count (definitions (take i old)) + n * (4 + rows_pushed before count (get_or old i d).def) = ap (λ x. n * x) more ∙ omega arith in
    subst (λ x. c.loop-i.meter + n * x < 2 ^ 64) (sym this) (omega (arith, was.most, c.requires.turns))

pub loop-i-preserved : goal.loop-i-preserved
loop-i-preserved c =
    let i = c.loop-i.i in
    let old = c.args.archives.now in
    let steps = c.args.steps.now in
    let before = steps.before in
    let count = count_of steps in
    let n = sources_of steps in
    let f = archive_passed n before (cells_of steps) in
    let d = c.index-archives-i.result in
    let new = c.take.new.self in
    let within : i < length old = omega arith in
    let left : i < length c.loop-i.archives = omega arith in
    let was = c.loop-i.invariant in
    let here : get_or c.loop-i.archives i d ≡ get_or old i d = ap (λ archives. get_or archives i d) was.value ∙ map_next f old old i d within within in
    let P = λ (k : ℕ). AllByRecursion (IsValidArchive n (before + count)) (take k (set c.loop-i.archives i new)) in
    let low = ap (λ (a : Rra). n * rows_pushed before count a.def) here in
    let high = ap (λ (a : Rra). n * (4 + rows_pushed before count a.def)) here in
    let least : n * least_of_steps before count (definitions (take (i + 1) old)) ≡ n * least_of_steps before count (definitions (take i old)) + n * rows_pushed before count (get_or old i d).def = ap (λ x. n * x) (sum_more (rows_pushed before count) old i d within) ∙ omega arith in
    let most : n * most_of_steps before count (definitions (take (i + 1) old)) ≡ n * most_of_steps before count (definitions (take i old)) + n * (4 + rows_pushed before count (get_or old i d).def) = ap (λ x. n * x) (sum_more (λ (def : RraDef). 4 + rows_pushed before count def) old i d within) ∙ omega arith in
    record {
      value = ap (λ archives. set archives i new) was.value
          ∙ map_more f old old i d new within within (c.take.ensures.value ∙ ap f here)
          ∙ ap (λ k. map f (take k old) ++ drop k old) {x = suc i} {y = i + 1} (omega arith);
      valid = subst P {x = suc i} {y = i + 1} (omega arith) (All-take-set (IsValidArchive n (before + count)) c.loop-i.archives i new left was.valid c.take.ensures.valid);
      least = omega (arith, was.least, c.take.ensures.least);
      most = omega (arith, was.most, c.take.ensures.most);
    }
