use Rattle.rrd_base.proofs.Common.{◌≡◌, ◌∙◌, ap, ◌+◌, ◌++◌, take, drop, map, pos, suc, length, set, get_or, ◌<◌, arith, anew, row_of, map_more, map_next}
use Rattle.rrd_base.proofs.walk.preparations.close_rows.Goals as goal

pub loop-i-preserved : goal.loop-i-preserved
loop-i-preserved c =
    let i = c.loop-i.i in
    let old = c.args.preps.now in
    let row = c.args.row.now in
    let def = c.args.def.now in
    let f = row_of def.xff def.steps in
    let share : pos c.share-share.result ≡ def.xff = c.share-share.ensures in
    let d = c.index-preps-i.result in
    let within : i < length old = omega arith in
    let within_row : i < length row = omega (arith, c.requires.places) in
    let was = c.loop-i.invariant in
    let here : get_or c.loop-i.preps i d ≡ get_or old i d = ap (λ ps. get_or ps i d) was.anew ∙ map_next anew old old i d within within in
    record {
      cells = ap (λ ys. set ys i c.new.result) was.cells
          ∙ map_more f old row i d c.new.result within within_row (c.new.ensures ∙ c.close.ensures.value ∙ ap (λ xff. row_of xff def.steps (get_or c.loop-i.preps i d)) share ∙ ap f here)
          ∙ ap (λ k. map f (take k old) ++ drop k row) {x = suc i} {y = i + 1} (omega arith);
      anew = ap (λ ps. set ps i c.close.new.self) was.anew
          ∙ map_more anew old old i d c.close.new.self within within (c.close.ensures.anew ∙ ap anew here)
          ∙ ap (λ k. map anew (take k old) ++ drop k old) {x = suc i} {y = i + 1} (omega arith);
      ticked = omega (arith, was.ticked);
    }
