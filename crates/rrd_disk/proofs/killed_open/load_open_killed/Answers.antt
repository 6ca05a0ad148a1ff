use Rattle.rrd_disk.proofs.Common.{◌++◌, List, ap, Event, alive_kept, alive_reload, kept_sound, leaving, power_meanwhile}
use Rattle.rrd_disk.proofs.killed_open.load_open_killed.Goals as goal

pub returns : goal.returns
returns g c =
    let was = c.args.file.now.session in
    let is = c.load.new.self.session in
    let old = was.storage.bytes.disk in
    let new = is.storage.bytes.disk in
    let before : List Event = g.D.Disk.events old.system in
    let after : List Event = new.missed.events ++ g.D.Disk.events new.system in
    let kept = alive_kept old.missed.events before c.requires.alive was.storage.found was.database was.encoded c.requires.kept in
    record {
      kept = c.load.ensures.kept kept;
      left = leaving before new.missed.events (g.D.Disk.events new.system) new.failed
          (kept_sound is.storage.found after is.database is.encoded (c.load.ensures.kept kept))
          (alive_reload old.missed.events before c.requires.alive after (c.load.ensures.stays kept));
      power = power_meanwhile c.file_laws.ensures (old.missed.events ++ before) before new.missed.events (g.D.Disk.events new.system) (ap (λ (l : List Event). l ++ before) c.requires.alive) new.failed
          was.storage.place.settings.syncs is.storage.place.settings.syncs was.storage.found is.storage.found c.load.ensures.safe;
    }
