use Rattle.rrd_disk.proofs.Common.{None, refl, kept_closed, ap, rests_safe, rests_safe_closed}
use Rattle.rrd_disk.proofs.open_file.OpenFile.own.Goals as goal

pub returns-clause-kept : goal.returns-clause-kept
returns-clause-kept g c = rw (c.forget.ensures.storage, c.forget.ensures.database, c.forget.ensures.encoded)
    (kept_closed c.args.self.now.session.storage.found c.turn_lock-is_own.new.self.found (g.D.Disk.events c.args.self.now.session.storage.bytes.disk) (g.D.Disk.events c.turn_lock-is_own.new.self.bytes.disk)
    c.args.self.now.session.database None c.args.self.now.session.encoded None c.turn_lock-is_own.ensures.rests (c.turn_lock-is_own.ensures.closed c.if-is_own.false) refl refl)

pub returns-then-is_own-clause-safe : goal.returns-then-is_own-clause-safe
returns-then-is_own-clause-safe g c = rests_safe c.args.self.now.session.storage.place.settings.syncs c.turn_lock-is_own.new.self.place.settings.syncs c.args.self.now.session.storage.found c.turn_lock-is_own.new.self.found (g.D.Disk.events c.args.self.now.session.storage.bytes.disk) (g.D.Disk.events c.turn_lock-is_own.new.self.bytes.disk) c.turn_lock-is_own.ensures.rests (ap (λ p. p.settings.syncs) c.turn_lock-is_own.ensures.place) (c.turn_lock-is_own.ensures.turned c.if-is_own.true).0

pub returns-clause-safe : goal.returns-clause-safe
returns-clause-safe g c = rw c.forget.ensures.storage (rests_safe_closed c.args.self.now.session.storage.place.settings.syncs c.turn_lock-is_own.new.self.place.settings.syncs c.args.self.now.session.storage.found c.turn_lock-is_own.new.self.found (g.D.Disk.events c.args.self.now.session.storage.bytes.disk) (g.D.Disk.events c.turn_lock-is_own.new.self.bytes.disk) c.turn_lock-is_own.ensures.rests (ap (λ p. p.settings.syncs) c.turn_lock-is_own.ensures.place) (c.turn_lock-is_own.ensures.closed c.if-is_own.false))
