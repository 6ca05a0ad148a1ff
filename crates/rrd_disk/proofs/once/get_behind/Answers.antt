use Rattle.rrd_disk.proofs.Common.{◌+◌, ◌-◌, IsTrue, length, refl, take-put_mid, got_behind, bytes_after, is_honest_after}
use Rattle.rrd_disk.proofs.once.get_behind.Goals as goal

pub returns-clause-shown : goal.returns-clause-shown
returns-clause-shown g c =
    let old = c.args.bytes.now in
    let part = c.get.new.bytes in
    got_behind c.get.result old part _ c.args.had (λ s. bytes_after s (g.D.Disk.events c.args.disk.now)) (λ s. IsTrue (is_honest_after s (g.D.Disk.events c.get.new.disk)))
    c.requires c.get.ensures.bound (take-put_mid c.args.had (length old - c.args.had) old part (c.args.had + length part) refl c.requires) c.get.ensures.ok
