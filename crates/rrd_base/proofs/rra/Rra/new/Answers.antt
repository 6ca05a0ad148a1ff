use Rattle.rrd_base.proofs.Common.{◌≡◌, ◌∙◌, ap, replicate, nothing, Rra, parts_in, parts_in-new}
use Rattle.rrd_base.proofs.rra.Rra.new.Goals as goal

pub returns : goal.returns
returns c =
    let n = c.args.sources in
    let parts : parts_in c.in_ok-preps.preps.items ≡ replicate n nothing = cc (c.in_ok-preps.ensures.items_if_clones_equal (λ y e. e) ∙ ap (replicate n) c.new.ensures, parts_in-new c.args.def.function n) in
    ap (λ ps. let a : Rra = record { def = c.args.def; parts = ps; rows = c.in_ok-rows.rows } in a) parts
    ∙ ap (λ rs. let a : Rra = record { def = c.args.def; parts = replicate n nothing; rows = rs } in a) c.in_ok-rows.ensures
