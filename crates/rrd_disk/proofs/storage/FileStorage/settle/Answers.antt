use Rattle.rrd_disk.proofs.Common.{prepared_settles, rests_settles, ◌∙◌, ap, rules, DoesOr, Readies, StaysLeft, Read, rests_left, settled_power, arith, common_steps}
use Rattle.rrd_disk.proofs.storage.FileStorage.settle.Goals as goal

pub returns-then-not-turn_lock-clause-prepares : goal.returns-then-not-turn_lock-clause-prepares
returns-then-not-turn_lock-clause-prepares g c = rests_settles (g.D.Disk.events c.args.self.now.bytes.disk) (g.D.Disk.events c.turn_lock.new.self.bytes.disk) c.turn_lock.ensures.rests

pub returns-clause-prepares : goal.returns-clause-prepares
returns-clause-prepares g c = grind (arith, common_steps, prepared_settles)

pub returns-then-not-turn_lock-clause-power : goal.returns-then-not-turn_lock-clause-power
returns-then-not-turn_lock-clause-power g c = λ ordered d w honest. rests_left Read (g.D.Disk.events c.args.self.now.bytes.disk) (g.D.Disk.events c.turn_lock.new.self.bytes.disk) c.turn_lock.ensures.rests d w

pub returns-clause-power : goal.returns-clause-power
returns-clause-power g c =
    let mid = g.D.Disk.events c.turn_lock.new.self.bytes.disk in
    let new = g.D.Disk.events c.prepare-ended.new.file.disk in
    let does : DoesOr Readies StaysLeft c.prepare-ended.result c.syncs-syncs.result mid new = search rules in
    settled_power c.prepare-ended.result (g.L.Location.syncs c.args.self.now.place) c.syncs-syncs.result (c.syncs-syncs.ensures ∙ ap (λ p. g.L.Location.syncs p) c.turn_lock.ensures.place)
    (g.D.Disk.events c.args.self.now.bytes.disk) mid new c.turn_lock.ensures.rests does
