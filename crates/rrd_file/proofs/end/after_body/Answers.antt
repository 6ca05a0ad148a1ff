use Rattle.rrd_file.proofs.Common.{◌∙◌, ◌*◌, ap, drop, after_body, after_cells, after_entries}
use Rattle.rrd_file.proofs.end.after_body.Goals as goal

pub returns : goal.returns
unfolding after_body
returns c =
    let n = c.args.sources in
    let m = c.args.archives in
    let heads = c.after-heads.ensures in
    let size = ap (λ k. m * k) c.head_size.ensures.size in
    let cells = c.after-cells.ensures ∙ (λ i. drop (size i) (heads i)) in
    c.after_entries.ensures ∙ ap (after_entries n m c.args.entries) (c.after_cells-journal.ensures ∙ (λ i. after_cells n m (heads i) (cells i)))
