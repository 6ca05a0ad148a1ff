use Rattle.rrd_disk.proofs.Common.{◌∙◌, ap, IsTrue, unopened_as, arith, common_steps}
use Rattle.rrd_disk.proofs.open_file.OpenFile.open.Goals as goal

pub returns-in-Ok-clause-opened : goal.returns-in-Ok-clause-opened
returns-in-Ok-clause-opened g c = grind (arith, common_steps)

pub returns-in-Ok-clause-power : goal.returns-in-Ok-clause-power
returns-in-Ok-clause-power g c = λ ordered d w honest P s.
    let begun = ap g.D.Disk.events c.unopened-file.ensures.disk ∙ c.requires in
    let file = c.unopened-file.result.session.storage in
    c.load.ensures.safe d w honest P (ap (λ p. p.settings.syncs) c.unopened-file.ensures.place ∙ ordered, unopened_as (λ b. IsTrue (P b)) file.found d w (g.D.Disk.events file.bytes.disk) begun c.unopened-file.ensures.found s)
