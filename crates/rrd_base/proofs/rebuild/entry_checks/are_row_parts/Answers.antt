use Rattle.rrd_base.proofs.Common.{◌≡◌, ◌∙◌, ◌/◌, ◌%◌, ◌<◌, length, subst, sym, arith, rules, w128, to_z-of_z, of_z, to_z, Part, IsPart, All_here_part}
use Rattle.rrd_base.proofs.rebuild.entry_checks.are_row_parts.Goals as goal

pub returns-then-is_none-clause-bad : goal.returns-then-is_none-clause-bad
returns-then-is_none-clause-bad c = λ all.
    let i = c.loop-prep.prep-index in
    let h : i < length c.args.preps.now = omega arith in
    let one = All_here_part (IsPart c.args.def.now.function (c.args.last / c.args.validator.now.step % c.args.def.now.steps)) c.args.preps.now i c.prep-item.result h c.prep-item.is all in
    let same : to_z w128 (of_z w128 c.value.result) ≡ c.value.result = to_z-of_z {w = w128} (record { sfits = c.value.type_inv }) in
    let part : Part = record { known = c.known.result; value = to_z w128 (of_z w128 c.value.result) } in
    let known = c.known.ensures.value in
    let value = c.value.ensures.value in
    let path : c.prep-item.result.part ≡ part = λ j. let p : Part = record { known = sym known j; value = (sym value ∙ sym same) j } in p in
    absurd (c.row_part.ensures.none (search rules) (subst (IsPart c.args.def.now.function (c.args.last / c.args.validator.now.step % c.args.def.now.steps)) path one))
