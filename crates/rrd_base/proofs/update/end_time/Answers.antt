use Rattle.rrd_base.proofs.Common.{◌∙◌, ap, ◌-◌, get_or, length, Sample, last_item}
use Rattle.rrd_base.proofs.update.end_time.Goals as goal

pub returns : goal.returns
returns c =
    let d = c.index-samples-samples.result in
    ap (λ zs. (let s : Sample = get_or zs (length zs - 1) d in s).time) c.as_slice-samples.ensures ∙ last_item c.args.update.now.samples d c.requires
