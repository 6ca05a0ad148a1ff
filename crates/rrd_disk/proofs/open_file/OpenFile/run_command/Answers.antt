use Rattle.rrd_disk.proofs.Common.{◌≡◌, ◌∙◌, None, Option, Some, subst, sym, Stored, RunsOn, kept_from, open_from, run_between, open_stores, open_survives, request_run}
use Rattle.rrd_disk.proofs.open_file.OpenFile.run_command.Goals as goal

pub returns-clause-kept : goal.returns-clause-kept
returns-clause-kept g c = λ kept.
    c.rest.ensures.kept (kept_from c.begin.new.self.session.storage.found c.run_command-ended.new.self.storage.found (g.D.Disk.events c.begin.new.self.session.storage.bytes.disk) (g.D.Disk.events c.run_command-ended.new.self.storage.bytes.disk)
    c.begin.new.self.session.database c.run_command-ended.new.self.database c.begin.new.self.session.encoded c.run_command-ended.new.self.encoded
    c.run_command-ended.ensures.falls c.run_command-ended.ensures.sound c.run_command-ended.ensures.memory (c.begin.ensures.kept kept))

pub returns-clause-file : goal.returns-clause-file
returns-clause-file g c = λ kept.
    let run = request_run c.args.command (g.W.Write.contents c.args.out.now) (g.W.Write.contents c.run_command-ended.new.out) c.run_command-ended.result in
    run_between run (g.D.Disk.events c.args.self.now.session.storage.bytes.disk) (g.D.Disk.events c.begin.new.self.session.storage.bytes.disk) (g.D.Disk.events c.run_command-ended.new.self.storage.bytes.disk) (g.D.Disk.events c.rest.new.self.session.storage.bytes.disk)
    c.begin.ensures.rests c.rest.ensures.rests
    (open_from c.begin.new.self.session.storage.found c.run_command-ended.new.self.storage.found (g.D.Disk.events c.begin.new.self.session.storage.bytes.disk) (g.D.Disk.events c.run_command-ended.new.self.storage.bytes.disk)
    c.begin.new.self.session.database c.run_command-ended.new.self.database c.begin.new.self.session.encoded c.run_command-ended.new.self.encoded
    c.run_command-ended.ensures.falls run c.run_command-ended.ensures.run (c.begin.ensures.kept kept))

pub returns-clause-on : goal.returns-clause-on
returns-clause-on g c = λ d same stayed.
    let held = c.rest.ensures.stayed stayed in
    let there : c.begin.new.self.session.database ≡ Some d = c.begin.ensures.stayed held.0 ∙ same in
    subst (λ (kept : Option Stored). RunsOn c.args.command d kept None None (g.W.Write.contents c.args.out.now) (g.W.Write.contents c.run_command-ended.new.out) c.run_command-ended.result) (sym held.1)
    (c.run_command-ended.ensures.on d there None tt tt (record { read = c.database_is_valid.ensures; bytes = tt }))

pub returns-clause-power : goal.returns-clause-power
returns-clause-power g c = λ kept.
    let run = request_run c.args.command (g.W.Write.contents c.args.out.now) (g.W.Write.contents c.run_command-ended.new.out) c.run_command-ended.result in
    open_survives c.args.self.now.session.storage.place.settings.syncs c.begin.new.self.session.storage.place.settings.syncs c.run_command-ended.new.self.storage.place.settings.syncs c.rest.new.self.session.storage.place.settings.syncs c.args.self.now.session.storage.found c.begin.new.self.session.storage.found c.run_command-ended.new.self.storage.found c.rest.new.self.session.storage.found (g.D.Disk.events c.args.self.now.session.storage.bytes.disk) (g.D.Disk.events c.begin.new.self.session.storage.bytes.disk) (g.D.Disk.events c.run_command-ended.new.self.storage.bytes.disk) (g.D.Disk.events c.rest.new.self.session.storage.bytes.disk) c.begin.ensures.safe c.rest.ensures.safe c.begin.ensures.rests c.rest.ensures.rests c.begin.new.self.session.database c.begin.new.self.session.encoded c.run_command-ended.ensures.falls (c.begin.ensures.kept kept) run c.run_command-ended.ensures.safe

pub returns-clause-stored : goal.returns-clause-stored
returns-clause-stored g c = λ kept ok.
    let run = request_run c.args.command (g.W.Write.contents c.args.out.now) (g.W.Write.contents c.run_command-ended.new.out) c.run_command-ended.result in
    open_stores c.args.self.now.session.storage.place.settings.syncs c.begin.new.self.session.storage.place.settings.syncs c.run_command-ended.new.self.storage.place.settings.syncs c.rest.new.self.session.storage.place.settings.syncs c.args.self.now.session.storage.found c.begin.new.self.session.storage.found c.run_command-ended.new.self.storage.found c.rest.new.self.session.storage.found (g.D.Disk.events c.args.self.now.session.storage.bytes.disk) (g.D.Disk.events c.begin.new.self.session.storage.bytes.disk) (g.D.Disk.events c.run_command-ended.new.self.storage.bytes.disk) (g.D.Disk.events c.rest.new.self.session.storage.bytes.disk) c.begin.ensures.safe c.rest.ensures.safe c.begin.ensures.rests c.rest.ensures.rests c.begin.new.self.session.database c.begin.new.self.session.encoded c.run_command-ended.ensures.falls (c.begin.ensures.kept kept) run (λ s d q r honest is m. c.run_command-ended.ensures.stored s d q r ok honest is m)
