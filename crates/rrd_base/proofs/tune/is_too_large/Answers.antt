use Rattle.rrd_base.proofs.Common.{◌≡◌, ◌∙◌, ap, ◌+◌, ◌*◌, ◌||◌, ◌++◌, ◌∷◌, [], length, sum, arith, nat_lt, length-map, length_push, rows_of_archives, Rra, few_sum, sum_push}
use Rattle.rrd_base.proofs.tune.is_too_large.Goals as goal

pub overflow_add-all_rows : goal.overflow_add-all_rows
overflow_add-all_rows c =
    omega (arith, few_sum c.args.archives.now c.requires.few_rows, c.all_rows.ensures, c.requires.few_archives, c.requires.few)

pub returns : goal.returns
returns c =
    let rows = rows_of_archives c.args.archives.now in
    let all = rows ++ c.args.rows ∷ [] in
    let n = c.args.sources in
    let count : length c.args.archives.now + 1 ≡ length all = omega (arith, length_push rows c.args.rows, length-map c.args.archives.now (λ (a : Rra). a.def.rows)) in
    let sum_is : c.all_rows.result + c.args.rows ≡ sum all = omega (arith, sum_push rows c.args.rows, few_sum c.args.archives.now c.requires.few_rows, c.all_rows.ensures, c.requires.few_archives) in
    c.is_beyond_limits.ensures ∙ ap (λ m. nat_lt 128 m || nat_lt 8000000 (n * (c.all_rows.result + c.args.rows))) count ∙ ap (λ s. nat_lt 128 (length all) || nat_lt 8000000 (n * s)) sum_is
