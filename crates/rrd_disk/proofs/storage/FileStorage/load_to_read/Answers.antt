use Rattle.rrd_disk.proofs.Common.{◌≡◌, ◌∙◌, Ok, subst, sym, IsSound, held_after, Pipe, Unwritable, loaded_as, loads_from, open_kept, finds_there, loaded_same, says_at, Unopened, rests_trans, rests_closed, rests_missing, arith, common_steps}
use Rattle.rrd_disk.proofs.storage.FileStorage.load_to_read.Goals as goal

pub returns-in-Ok-Open-clause-loads : goal.returns-in-Ok-Open-clause-loads
returns-in-Ok-Open-clause-loads g c = grind (arith, common_steps, loaded_as, loads_from, says_at)

pub returns-in-Ok-Pipe-clause-loads : goal.returns-in-Ok-Pipe-clause-loads
returns-in-Ok-Pipe-clause-loads g c = rw (c.leave-in-Ok-Pipe.ensures.disk, c.leave-in-Ok-Pipe.ensures.found) (λ s honest sound.
    let old = g.D.Disk.events c.args.self.now.bytes.disk in
    let mid = g.D.Disk.events c.open.new.self.bytes.disk in
    let new = g.D.Disk.events c.load_pipe-loaded.new.file.disk in
    let before = c.load_pipe-loaded.ensures.rests.falls s honest in
    let was : c.open.result ≡ Ok (Pipe c.in-Ok-Pipe.pipe) = cc in
    let there = says_at c.open.result (Pipe c.in-Ok-Pipe.pipe) mid was c.open.ensures.says s before in
    let same = c.load_pipe-loaded.ensures.rests.held s ∙ c.open.ensures.rests.held s in
    loaded_same (Unwritable c.args.unwritable) c.load_pipe-loaded.result (held_after s old) (held_after s new) same (subst IsSound (sym same) sound)
    (finds_there c.load_pipe-loaded.result (held_after s old) (open_kept (held_after s mid) (held_after s old) (sym (c.open.ensures.rests.held s)) there) (c.load_pipe-loaded.ensures.finds s honest)))

pub returns-in-Ok-Open-clause-power : goal.returns-in-Ok-Open-clause-power
returns-in-Ok-Open-clause-power g c = rw (c.leave.ensures.disk, c.leave.ensures.found) (
    let new = g.D.Disk.events c.load_shared-loaded.new.self.bytes.disk in
    rests_closed (g.L.Location.syncs c.args.self.now.place) (g.D.Disk.events c.args.self.now.bytes.disk) new (rests_trans (g.D.Disk.events c.args.self.now.bytes.disk) (g.D.Disk.events c.open.new.self.bytes.disk) new c.open.ensures.rests c.load_shared-loaded.ensures.rests) (Unwritable c.args.unwritable) tt)

pub returns-in-Ok-Missing-clause-power : goal.returns-in-Ok-Missing-clause-power
returns-in-Ok-Missing-clause-power g c = grind (arith, common_steps, rests_missing, says_at)

pub returns-in-Ok-Pipe-clause-power : goal.returns-in-Ok-Pipe-clause-power
returns-in-Ok-Pipe-clause-power g c = rw (c.leave-in-Ok-Pipe.ensures.disk, c.leave-in-Ok-Pipe.ensures.found) (
    let new = g.D.Disk.events c.load_pipe-loaded.new.file.disk in
    rests_closed (g.L.Location.syncs c.args.self.now.place) (g.D.Disk.events c.args.self.now.bytes.disk) new (rests_trans (g.D.Disk.events c.args.self.now.bytes.disk) (g.D.Disk.events c.open.new.self.bytes.disk) new c.open.ensures.rests c.load_pipe-loaded.ensures.rests) (Unwritable c.args.unwritable) tt)

pub returns-in-Ok-Refused-clause-power : goal.returns-in-Ok-Refused-clause-power
returns-in-Ok-Refused-clause-power g c = rw c.open.ensures.found (rests_closed (g.L.Location.syncs c.args.self.now.place) (g.D.Disk.events c.args.self.now.bytes.disk) (g.D.Disk.events c.open.new.self.bytes.disk) c.open.ensures.rests Unopened tt)
