use Rattle.rrd_base.proofs.Common.{ap, arith, length, Content, length-accepted}
use Rattle.rrd_base.proofs.content.Content.undo_update.Goals as goal

pub copy_from_slice-requires : goal.copy_from_slice-requires
copy_from_slice-requires c =
    let d = c.self.inside in
    let then = length-accepted c.args.self.now.sources c.args.before.raws.items c.requires.valid.raws_are in
    let sources = ap (λ (x : Content). length x.sources) c.self.view_is in
    omega (arith, (length-accepted d.sources.items d.raws.items c.self.invariant.raws_are), then, sources, d.raws.ok.0, ap length c.as_slice.ensures)
