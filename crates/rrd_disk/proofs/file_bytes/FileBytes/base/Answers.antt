use Rattle.rrd_disk.proofs.Common.{◌∙◌, bytes_after, take_same}
use Rattle.rrd_disk.proofs.file_bytes.FileBytes.base.Goals as goal

pub returns : goal.returns
returns g c = λ s honest.
    let file = bytes_after s (g.D.Disk.events c.args.self.now.disk) in
    let shown = c.front.ensures.shown s honest in
    (c.args.self.now.measured s honest c.in_ok-length.length c.in_ok-length.was, c.in_ok-first.ensures.is ∙ take_same file c.front.result.now shown 16 c.in_ok-first.ensures.enough)
