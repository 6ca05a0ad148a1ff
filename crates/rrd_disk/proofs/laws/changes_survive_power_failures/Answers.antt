use Rattle.rrd_disk.proofs.Common.{◌≡◌, ◌∙◌, ◌++◌, List, ℕ, [], ap, Event, Laws, change_begun, changed_begun, changes_ordered, interrupted_change, Found, MakesSafely, subst, interrupted_making, made_begun, making_begun, making_ordered}
use Rattle.rrd_disk.proofs.laws.changes_survive_power_failures.Goals as goal

pub returns : goal.returns
returns g c =
    let laws : Laws = c.file_laws.ensures in
    let bytes : List ℕ = c.args.bytes.now in
    let killed = c.into_disk.result in
    let events : List Event = g.D.Disk.events killed.system in
    let missed : List Event = killed.missed.events in
    let storage = c.new-storage.result in
    let old : List Event = storage.bytes.disk.missed.events ++ g.D.Disk.events storage.bytes.disk.system in
    let begun : old ≡ [] =
    ap (λ k. k.missed.events ++ g.D.Disk.events k.system) c.new-storage.ensures.disk
    ∙ ap (λ (l : List Event). l ++ g.D.Disk.events c.new-killed.result.system) c.new-killed.ensures.missed
    ∙ ap g.D.Disk.events c.new-killed.ensures.system ∙ c.requires.begun in
    let ordered = ap g.L.Location.syncs c.new-storage.ensures.place ∙ c.requires.syncs in
    let does = changes_ordered bytes (g.L.Location.syncs storage.place) c.write-end.result old (missed ++ events) ordered (rw c.into_disk.ensures (c.write-end.ensures.power c.new-storage.ensures.found)) in
    let left = c.write-end.new.self.found in
    let makes = making_ordered left bytes (g.L.Location.syncs storage.place) c.write-end.result old (missed ++ events) ordered (rw c.into_disk.ensures (subst (λ (f : Found). MakesSafely (g.L.Location.syncs storage.place) f left bytes old (c.write-end.new.self.bytes.disk.missed.events ++ g.D.Disk.events c.write-end.new.self.bytes.disk.system) c.write-end.result) c.new-storage.ensures.found c.write-end.ensures.makes)) in
    record {
      left = interrupted_change laws bytes missed events killed.failed (change_begun laws bytes c.write-end.result old (missed ++ events) c.requires.file begun does);
      stored = changed_begun laws bytes c.write-end.result old (missed ++ events) c.requires.file begun does;
      making = interrupted_making laws bytes c.requires.file missed events killed.failed (making_begun laws left bytes c.requires.file c.write-end.result old (missed ++ events) begun makes);
      made = made_begun laws left bytes c.requires.file c.write-end.result old (missed ++ events) begun makes;
    }
