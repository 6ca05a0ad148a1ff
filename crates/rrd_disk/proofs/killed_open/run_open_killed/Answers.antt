use Rattle.rrd_disk.proofs.Common.{◌++◌, List, Event, alive_kept, alive_run, kept_sound, killed_open, power_in_run, command_run}
use Rattle.rrd_disk.proofs.killed_open.run_open_killed.Goals as goal

pub returns : goal.returns
returns g c =
    let was = c.args.file.now.session in
    let is = c.run.new.self.session in
    let old = was.storage.bytes.disk in
    let new = is.storage.bytes.disk in
    let before : List Event = g.D.Disk.events old.system in
    let after : List Event = new.missed.events ++ g.D.Disk.events new.system in
    let kept = alive_kept old.missed.events before c.requires.alive was.storage.found was.database was.encoded c.requires.kept in
    let run = command_run c.args.words.now c.args.now (g.W.Write.contents c.args.out.now) (g.W.Write.contents c.run.new.out) c.run.result in
    record {
      kept = c.run.ensures.kept kept;
      killed = killed_open before new.missed.events (g.D.Disk.events new.system) new.failed
          (kept_sound is.storage.found after is.database is.encoded (c.run.ensures.kept kept)) run
          (alive_run old.missed.events before c.requires.alive after run (c.run.ensures.file kept));
      power = power_in_run c.file_laws.ensures old.missed.events before new.missed.events (g.D.Disk.events new.system) c.requires.alive new.failed was.storage.place.settings.syncs is.storage.place.settings.syncs
          was.storage.found is.storage.found run (c.run.ensures.power kept);
    }
