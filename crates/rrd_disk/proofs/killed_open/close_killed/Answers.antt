use Rattle.rrd_disk.proofs.Common.{◌++◌, List, ap, Event, alive_kept, alive_reload, leaving, power_meanwhile, Unopened}
use Rattle.rrd_disk.proofs.killed_open.close_killed.Goals as goal

pub returns : goal.returns
returns g c =
    let was = c.args.file.session in
    let old = was.storage.bytes.disk in
    let new = c.close.result in
    let before : List Event = g.D.Disk.events old.system in
    let after : List Event = new.missed.events ++ g.D.Disk.events new.system in
    let kept = alive_kept old.missed.events before c.requires.alive was.storage.found was.database was.encoded c.requires.kept in
    record {
      left = leaving before new.missed.events (g.D.Disk.events new.system) new.failed (c.close.ensures.sound kept)
          (alive_reload old.missed.events before c.requires.alive after (c.close.ensures.stays kept));
      power = power_meanwhile c.file_laws.ensures (old.missed.events ++ before) before new.missed.events (g.D.Disk.events new.system) (ap (λ (l : List Event). l ++ before) c.requires.alive) new.failed
          was.storage.place.settings.syncs was.storage.place.settings.syncs was.storage.found Unopened c.close.ensures.power;
    }
