use Rattle.rrd_tool.proofs.Common.{◌∙◌, map, not, sym, begins_with_minus, arith, list_all-map, nil_from_length, update_read}
use Rattle.rrd_tool.proofs.commands.read_values.Goals as goal

pub returns-in-Update-default : goal.returns-in-Update-default
returns-in-Update-default c =
    let plain = list_all-map (λ word. not (begins_with_minus word)) (λ w. w.now) c.args.words.now in
    rw c.in-Update-default.is-0
    (update_read (map (λ w. w.now) c.args.words.now) c.args.now c.read_samples.result (plain ∙ sym c.are_values.ensures ∙ c.if-are_values.true) c.read_samples.ensures)

pub returns-in_ok-alone-in_default-empty : goal.returns-in_ok-alone-in_default-empty
returns-in_ok-alone-in_default-empty c = rw (nil_from_length c.args.words.now (omega (arith, c.in_default-empty.len_below))) (c.in_ok-alone-in_default-empty.ensures c.args.now)
