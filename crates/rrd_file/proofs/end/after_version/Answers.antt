use Rattle.rrd_file.proofs.Common.{◌∙◌, ◌+◌, ap, drop, after_body, after_version, count_in, two_in}
use Rattle.rrd_file.proofs.end.after_version.Goals as goal

pub returns : goal.returns
unfolding after_version
returns c =
    let bytes = c.args.bytes.now in
    let counts = c.after-counts.ensures ∙ ap (λ k. drop (12 + k) bytes) c.count_size.ensures.size in
    let archives = c.two_in-archives.ensures.number ∙ ap two_in (c.after.ensures ∙ ap (drop 2) counts) in
    let entries = c.count_in-entries.ensures.number ∙ ap (count_in c.args.version) (c.after-2.ensures ∙ ap (drop 4) counts) in
    let body = c.after-3.ensures ∙ ap (λ k. drop k bytes) c.header_length.ensures in
    c.after_body.ensures ∙ (λ i. after_body ((c.two_in-sources.ensures.number ∙ ap two_in counts) i) (archives i) (entries i) (body i))
