use Rattle.rrd_disk.proofs.Common.{◌≡◌, ◌∙◌, ◌++◌, List, [], ap, subst, Event, interrupted, IsReload, kept_sound, leaving, SurvivesMeanwhile, Syncs, Found, power_meanwhile}
use Rattle.rrd_disk.proofs.killed_open.open_killed.Goals as goal

pub returns : goal.returns
returns g c =
    let was = c.unopened-file.result.session.storage in
    let is = c.load-end.new.self.session in
    let new = is.storage.bytes.disk in
    let events : List Event = g.D.Disk.events new.system in
    let before : List Event = was.bytes.disk.missed.events ++ g.D.Disk.events was.bytes.disk.system in
    let after : List Event = interrupted new.missed.events ++ events in
    let begun : before ≡ [] = ap (λ d. d.missed.events ++ g.D.Disk.events d.system) c.unopened-file.ensures.disk
    ∙ ap (λ (l : List Event). l ++ g.D.Disk.events c.new.result.system) c.new.ensures.missed
    ∙ ap g.D.Disk.events c.new.ensures.system ∙ c.requires in
    let kept = c.load-end.ensures.kept c.unopened-file.ensures.kept in
    record {
      kept = kept;
      left = leaving [] new.missed.events events new.failed (kept_sound is.storage.found (new.missed.events ++ events) is.database is.encoded kept)
          (subst (λ (l : List Event). IsReload l (new.missed.events ++ events)) begun (c.load-end.ensures.stays c.unopened-file.ensures.kept));
      power = subst (λ (f : Found). SurvivesMeanwhile c.args.place.settings.syncs f [] after) c.unopened-file.ensures.found
          (subst (λ (y : Syncs). SurvivesMeanwhile y was.found [] after) (ap (λ p. p.settings.syncs) c.unopened-file.ensures.place)
          (power_meanwhile c.file_laws.ensures before [] new.missed.events events begun new.failed was.place.settings.syncs is.storage.place.settings.syncs was.found is.storage.found c.load-end.ensures.safe));
    }
