use Rattle.rrd_disk.proofs.Common.{◌≡◌, Bool, true, false, Ok, None, TellsMark, closed_loaded, open_from_marked, open_from_unmarked, finds_closed, if_ok_at, ap, rests_closed, rests_then, rests_then_unmarked, tells_unmarked, Unopened, Read, marked_never, rests_unmarked, unmarked_twice, arith, common_steps}
use Rattle.rrd_disk.proofs.storage.FileStorage.load_open.Goals as goal

pub returns-in-Ok-true-clause-loads : goal.returns-in-Ok-true-clause-loads
returns-in-Ok-true-clause-loads g c =
    let mid = g.D.Disk.events c.is_marked.new.self.bytes.disk in
    let was : c.is_marked.result ≡ Ok true = cc in
    open_from_marked c.load_marked.new.self.found c.load_marked.result (g.D.Disk.events c.args.self.now.bytes.disk) mid (g.D.Disk.events c.load_marked.new.self.bytes.disk)
    c.is_marked.ensures.rests.held c.load_marked.ensures.falls (if_ok_at (λ (b : Bool). TellsMark b mid) c.is_marked.result true was c.is_marked.ensures.ok) c.load_marked.ensures.loads

pub returns-in-Ok-false-clause-loads : goal.returns-in-Ok-false-clause-loads
returns-in-Ok-false-clause-loads g c =
    let mid = g.D.Disk.events c.is_marked.new.self.bytes.disk in
    let was : c.is_marked.result ≡ Ok false = cc in
    open_from_unmarked c.load_unmarked.new.self.found c.load_unmarked.result (g.D.Disk.events c.args.self.now.bytes.disk) mid (g.D.Disk.events c.load_unmarked.new.self.bytes.disk)
    c.is_marked.ensures.rests.held c.load_unmarked.ensures.rests.falls (if_ok_at (λ (b : Bool). TellsMark b mid) c.is_marked.result false was c.is_marked.ensures.ok) c.load_unmarked.ensures.loads

pub returns-in-Err-clause-loads : goal.returns-in-Err-clause-loads
returns-in-Err-clause-loads g c = grind (arith, common_steps, closed_loaded)

pub returns-in-Err-clause-valid : goal.returns-in-Err-clause-valid
returns-in-Err-clause-valid g c = finds_closed c.in-Err.fault None c.in-Err.ensures.err

pub returns-in-Ok-true-clause-power : goal.returns-in-Ok-true-clause-power
returns-in-Ok-true-clause-power g c =
    rests_then c.load_marked.new.self.found (g.L.Location.syncs c.args.self.now.place) (g.L.Location.syncs c.is_marked.new.self.place) (ap g.L.Location.syncs c.is_marked.ensures.place) (g.D.Disk.events c.args.self.now.bytes.disk) (g.D.Disk.events c.is_marked.new.self.bytes.disk) (g.D.Disk.events c.load_marked.new.self.bytes.disk)
    c.is_marked.ensures.rests c.load_marked.ensures.power

pub returns-in-Ok-false-clause-power : goal.returns-in-Ok-false-clause-power
returns-in-Ok-false-clause-power g c =
    let mid = g.D.Disk.events c.is_marked.new.self.bytes.disk in
    let was : c.is_marked.result ≡ Ok false = cc in
    rests_then_unmarked c.load_unmarked.new.self.found (g.L.Location.syncs c.args.self.now.place) (g.L.Location.syncs c.is_marked.new.self.place) (ap g.L.Location.syncs c.is_marked.ensures.place) (g.D.Disk.events c.args.self.now.bytes.disk) mid (g.D.Disk.events c.load_unmarked.new.self.bytes.disk)
    c.is_marked.ensures.rests c.load_unmarked.ensures.rests.falls (tells_unmarked mid (if_ok_at (λ (b : Bool). TellsMark b mid) c.is_marked.result false was c.is_marked.ensures.ok)) c.load_unmarked.ensures.power

pub returns-in-Err-clause-power : goal.returns-in-Err-clause-power
returns-in-Err-clause-power g c = rw c.is_marked.ensures.found (rests_closed (g.L.Location.syncs c.args.self.now.place) (g.D.Disk.events c.args.self.now.bytes.disk) (g.D.Disk.events c.is_marked.new.self.bytes.disk) c.is_marked.ensures.rests Unopened tt)

pub returns-in-Ok-true-clause-unmarked : goal.returns-in-Ok-true-clause-unmarked
returns-in-Ok-true-clause-unmarked g c = grind (arith, common_steps, marked_never, rests_unmarked, if_ok_at)

pub returns-in-Ok-false-clause-unmarked : goal.returns-in-Ok-false-clause-unmarked
returns-in-Ok-false-clause-unmarked g c =
    let old = g.D.Disk.events c.args.self.now.bytes.disk in
    let mid = g.D.Disk.events c.is_marked.new.self.bytes.disk in
    let new = g.D.Disk.events c.load_unmarked.new.self.bytes.disk in
    unmarked_twice old mid new c.load_unmarked.ensures.rests.falls (rests_unmarked Read old mid c.is_marked.ensures.rests) (rests_unmarked Read mid new c.load_unmarked.ensures.rests)

pub returns-in-Err-clause-unmarked : goal.returns-in-Err-clause-unmarked
returns-in-Err-clause-unmarked g c = rests_unmarked Read (g.D.Disk.events c.args.self.now.bytes.disk) (g.D.Disk.events c.is_marked.new.self.bytes.disk) c.is_marked.ensures.rests
