use Rattle.rrd_disk.proofs.Common.{None, of_place, kept_from, reload_between, reload_from, open_loads}
use Rattle.rrd_disk.proofs.open_file.OpenFile.load.Goals as goal

pub returns-in-Err-clause-kept : goal.returns-in-Err-clause-kept
returns-in-Err-clause-kept g c = λ kept.
    c.rest.ensures.kept (kept_from c.begin.new.self.session.storage.found c.load-loaded.new.self.storage.found (g.D.Disk.events c.begin.new.self.session.storage.bytes.disk) (g.D.Disk.events c.load-loaded.new.self.storage.bytes.disk)
    c.begin.new.self.session.database c.load-loaded.new.self.database c.begin.new.self.session.encoded c.load-loaded.new.self.encoded
    c.load-loaded.ensures.falls (λ s honest is memory. c.load-loaded.ensures.sound s honest is) c.load-loaded.ensures.memory (c.begin.ensures.kept kept))

pub returns-in-Err-clause-stays : goal.returns-in-Err-clause-stays
returns-in-Err-clause-stays g c = λ kept.
    reload_between (g.D.Disk.events c.args.self.now.session.storage.bytes.disk) (g.D.Disk.events c.begin.new.self.session.storage.bytes.disk) (g.D.Disk.events c.load-loaded.new.self.storage.bytes.disk) (g.D.Disk.events c.rest.new.self.session.storage.bytes.disk)
    c.begin.ensures.rests c.rest.ensures.rests
    (reload_from c.begin.new.self.session.storage.found c.load-loaded.new.self.storage.found (g.D.Disk.events c.begin.new.self.session.storage.bytes.disk) (g.D.Disk.events c.load-loaded.new.self.storage.bytes.disk)
    c.begin.new.self.session.database c.load-loaded.new.self.database c.begin.new.self.session.encoded c.load-loaded.new.self.encoded
    c.load-loaded.ensures.falls c.load-loaded.ensures.stays (c.begin.ensures.kept kept))

pub returns-in-Ok-clause-kept : goal.returns-in-Ok-clause-kept
returns-in-Ok-clause-kept g c = λ kept.
    c.rest.ensures.kept (kept_from c.begin.new.self.session.storage.found c.load-loaded.new.self.storage.found (g.D.Disk.events c.begin.new.self.session.storage.bytes.disk) (g.D.Disk.events c.load-loaded.new.self.storage.bytes.disk)
    c.begin.new.self.session.database c.load-loaded.new.self.database c.begin.new.self.session.encoded c.load-loaded.new.self.encoded
    c.load-loaded.ensures.falls (λ s honest is memory. c.load-loaded.ensures.sound s honest is) c.load-loaded.ensures.memory (c.begin.ensures.kept kept))

pub returns-in-Ok-clause-stays : goal.returns-in-Ok-clause-stays
returns-in-Ok-clause-stays g c = λ kept.
    reload_between (g.D.Disk.events c.args.self.now.session.storage.bytes.disk) (g.D.Disk.events c.begin.new.self.session.storage.bytes.disk) (g.D.Disk.events c.load-loaded.new.self.storage.bytes.disk) (g.D.Disk.events c.rest.new.self.session.storage.bytes.disk)
    c.begin.ensures.rests c.rest.ensures.rests
    (reload_from c.begin.new.self.session.storage.found c.load-loaded.new.self.storage.found (g.D.Disk.events c.begin.new.self.session.storage.bytes.disk) (g.D.Disk.events c.load-loaded.new.self.storage.bytes.disk)
    c.begin.new.self.session.database c.load-loaded.new.self.database c.begin.new.self.session.encoded c.load-loaded.new.self.encoded
    c.load-loaded.ensures.falls c.load-loaded.ensures.stays (c.begin.ensures.kept kept))

pub returns-in-Ok-2-clause-kept : goal.returns-in-Ok-2-clause-kept
returns-in-Ok-2-clause-kept g c = λ kept.
    c.rest.ensures.kept (kept_from c.begin.new.self.session.storage.found c.load-loaded.new.self.storage.found (g.D.Disk.events c.begin.new.self.session.storage.bytes.disk) (g.D.Disk.events c.load-loaded.new.self.storage.bytes.disk)
    c.begin.new.self.session.database c.load-loaded.new.self.database c.begin.new.self.session.encoded c.load-loaded.new.self.encoded
    c.load-loaded.ensures.falls (λ s honest is memory. c.load-loaded.ensures.sound s honest is) c.load-loaded.ensures.memory (c.begin.ensures.kept kept))

pub returns-in-Ok-2-clause-stays : goal.returns-in-Ok-2-clause-stays
returns-in-Ok-2-clause-stays g c = λ kept.
    reload_between (g.D.Disk.events c.args.self.now.session.storage.bytes.disk) (g.D.Disk.events c.begin.new.self.session.storage.bytes.disk) (g.D.Disk.events c.load-loaded.new.self.storage.bytes.disk) (g.D.Disk.events c.rest.new.self.session.storage.bytes.disk)
    c.begin.ensures.rests c.rest.ensures.rests
    (reload_from c.begin.new.self.session.storage.found c.load-loaded.new.self.storage.found (g.D.Disk.events c.begin.new.self.session.storage.bytes.disk) (g.D.Disk.events c.load-loaded.new.self.storage.bytes.disk)
    c.begin.new.self.session.database c.load-loaded.new.self.database c.begin.new.self.session.encoded c.load-loaded.new.self.encoded
    c.load-loaded.ensures.falls c.load-loaded.ensures.stays (c.begin.ensures.kept kept))

pub returns-in-Err-clause-fault : goal.returns-in-Err-clause-fault
returns-in-Err-clause-fault g c = of_place c.in-Err.fault (c.in-Err.ensures.fault None tt tt c.database_is_valid.ensures)

pub returns-in-Err-clause-safe : goal.returns-in-Err-clause-safe
returns-in-Err-clause-safe g c = open_loads c.args.self.now.session.storage.place.settings.syncs c.begin.new.self.session.storage.place.settings.syncs c.load-loaded.new.self.storage.place.settings.syncs c.rest.new.self.session.storage.place.settings.syncs c.args.self.now.session.storage.found c.begin.new.self.session.storage.found c.load-loaded.new.self.storage.found c.rest.new.self.session.storage.found (g.D.Disk.events c.args.self.now.session.storage.bytes.disk) (g.D.Disk.events c.begin.new.self.session.storage.bytes.disk) (g.D.Disk.events c.load-loaded.new.self.storage.bytes.disk) (g.D.Disk.events c.rest.new.self.session.storage.bytes.disk) c.begin.ensures.safe c.rest.ensures.safe c.rest.ensures.rests c.load-loaded.ensures.falls c.load-loaded.ensures.safe

pub returns-in-Ok-clause-safe : goal.returns-in-Ok-clause-safe
returns-in-Ok-clause-safe g c = open_loads c.args.self.now.session.storage.place.settings.syncs c.begin.new.self.session.storage.place.settings.syncs c.load-loaded.new.self.storage.place.settings.syncs c.rest.new.self.session.storage.place.settings.syncs c.args.self.now.session.storage.found c.begin.new.self.session.storage.found c.load-loaded.new.self.storage.found c.rest.new.self.session.storage.found (g.D.Disk.events c.args.self.now.session.storage.bytes.disk) (g.D.Disk.events c.begin.new.self.session.storage.bytes.disk) (g.D.Disk.events c.load-loaded.new.self.storage.bytes.disk) (g.D.Disk.events c.rest.new.self.session.storage.bytes.disk) c.begin.ensures.safe c.rest.ensures.safe c.rest.ensures.rests c.load-loaded.ensures.falls c.load-loaded.ensures.safe

pub returns-in-Ok-2-clause-safe : goal.returns-in-Ok-2-clause-safe
returns-in-Ok-2-clause-safe g c = open_loads c.args.self.now.session.storage.place.settings.syncs c.begin.new.self.session.storage.place.settings.syncs c.load-loaded.new.self.storage.place.settings.syncs c.rest.new.self.session.storage.place.settings.syncs c.args.self.now.session.storage.found c.begin.new.self.session.storage.found c.load-loaded.new.self.storage.found c.rest.new.self.session.storage.found (g.D.Disk.events c.args.self.now.session.storage.bytes.disk) (g.D.Disk.events c.begin.new.self.session.storage.bytes.disk) (g.D.Disk.events c.load-loaded.new.self.storage.bytes.disk) (g.D.Disk.events c.rest.new.self.session.storage.bytes.disk) c.begin.ensures.safe c.rest.ensures.safe c.rest.ensures.rests c.load-loaded.ensures.falls c.load-loaded.ensures.safe
