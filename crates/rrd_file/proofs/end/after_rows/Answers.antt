use Rattle.rrd_file.proofs.Common.{◌∙◌, ◌+◌, ap, drop, after_rows, four_in, rows_size}
use Rattle.rrd_file.proofs.end.after_rows.Goals as goal

pub returns : goal.returns
unfolding after_rows
returns c =
    let size = c.rows_size.ensures.size ∙ ap (rows_size c.args.sources) (c.four_in-rows.ensures.number ∙ ap four_in c.after.ensures) in
    c.after-2.ensures ∙ ap (λ n. drop (c.args.at + 4 + c.args.more + n) c.args.bytes.now) size
