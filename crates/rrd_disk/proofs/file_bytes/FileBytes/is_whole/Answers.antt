use Rattle.rrd_disk.proofs.Common.{◌≡◌, sym, ◌∙◌, length, eqb-true, whole, bytes_after}
use Rattle.rrd_disk.proofs.file_bytes.FileBytes.is_whole.Goals as goal

pub returns-in-Some : goal.returns-in-Some
returns-in-Some g c is s h =
    let file = bytes_after s (g.D.Disk.events c.args.self.now.disk) in
    let known : c.in-Some.length ≡ length file = c.args.self.now.measured s h c.in-Some.length c.in-Some.is in
    let same : c.in-Some.length ≡ c.len.result = eqb-true c.in-Some.length c.len.result is in
    whole file c.args.self.now.front.bytes.items (c.args.self.now.shown s h) (sym c.len.ensures ∙ sym same ∙ known)
