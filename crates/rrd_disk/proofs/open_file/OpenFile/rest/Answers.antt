use Rattle.rrd_disk.proofs.Common.{None, refl, kept_as, kept_closed, kept_none, ap, rests_safe, rests_safe_closed}
use Rattle.rrd_disk.proofs.open_file.OpenFile.rest.Goals as goal

pub returns-then-is_shared-clause-kept : goal.returns-then-is_shared-clause-kept
returns-then-is_shared-clause-kept g c =
    let found = c.args.self.now.session.storage.found in
    let left = c.turn_lock-is_shared.new.self.found in
    let old = g.D.Disk.events c.args.self.now.session.storage.bytes.disk in
    let new = g.D.Disk.events c.turn_lock-is_shared.new.self.bytes.disk in
    let database = c.args.self.now.session.database in
    let encoded = c.args.self.now.session.encoded in
    elim c.then-is_shared.branch [
      | goal.then-is_shared-via-then-is_shared w ↦
          kept_as found left old new database database encoded encoded c.turn_lock-is_shared.ensures.rests (c.turn_lock-is_shared.ensures.turned w.if-is_shared.true).0 refl refl
      | goal.then-is_shared-via-else-is_shared+then-is_none w ↦
          kept_none found left old new database encoded c.turn_lock-is_shared.ensures.rests (c.turn_lock-is_shared.ensures.closed w.if-is_shared.false)
    ]

pub returns-clause-kept : goal.returns-clause-kept
returns-clause-kept g c = rw (c.forget.ensures.storage, c.forget.ensures.database, c.forget.ensures.encoded)
    (kept_closed c.args.self.now.session.storage.found c.turn_lock-is_shared.new.self.found (g.D.Disk.events c.args.self.now.session.storage.bytes.disk) (g.D.Disk.events c.turn_lock-is_shared.new.self.bytes.disk)
    c.args.self.now.session.database None c.args.self.now.session.encoded None c.turn_lock-is_shared.ensures.rests (c.turn_lock-is_shared.ensures.closed c.if-is_shared.false) refl refl)

pub returns-then-is_shared-clause-safe : goal.returns-then-is_shared-clause-safe
returns-then-is_shared-clause-safe g c = elim c.then-is_shared.branch [
  | goal.then-is_shared-via-then-is_shared w ↦ rests_safe c.args.self.now.session.storage.place.settings.syncs c.turn_lock-is_shared.new.self.place.settings.syncs c.args.self.now.session.storage.found c.turn_lock-is_shared.new.self.found (g.D.Disk.events c.args.self.now.session.storage.bytes.disk) (g.D.Disk.events c.turn_lock-is_shared.new.self.bytes.disk) c.turn_lock-is_shared.ensures.rests (ap (λ p. p.settings.syncs) c.turn_lock-is_shared.ensures.place) (c.turn_lock-is_shared.ensures.turned w.if-is_shared.true).0
  | goal.then-is_shared-via-else-is_shared+then-is_none w ↦ rests_safe_closed c.args.self.now.session.storage.place.settings.syncs c.turn_lock-is_shared.new.self.place.settings.syncs c.args.self.now.session.storage.found c.turn_lock-is_shared.new.self.found (g.D.Disk.events c.args.self.now.session.storage.bytes.disk) (g.D.Disk.events c.turn_lock-is_shared.new.self.bytes.disk) c.turn_lock-is_shared.ensures.rests (ap (λ p. p.settings.syncs) c.turn_lock-is_shared.ensures.place) (c.turn_lock-is_shared.ensures.closed w.if-is_shared.false)
]

pub returns-clause-safe : goal.returns-clause-safe
returns-clause-safe g c = rw c.forget.ensures.storage (rests_safe_closed c.args.self.now.session.storage.place.settings.syncs c.turn_lock-is_shared.new.self.place.settings.syncs c.args.self.now.session.storage.found c.turn_lock-is_shared.new.self.found (g.D.Disk.events c.args.self.now.session.storage.bytes.disk) (g.D.Disk.events c.turn_lock-is_shared.new.self.bytes.disk) c.turn_lock-is_shared.ensures.rests (ap (λ p. p.settings.syncs) c.turn_lock-is_shared.ensures.place) (c.turn_lock-is_shared.ensures.closed c.if-is_shared.false))
