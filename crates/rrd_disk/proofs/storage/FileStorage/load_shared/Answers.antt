use Rattle.rrd_disk.proofs.Common.{◌≡◌, Bool, true, Ok, None, TellsMark, closed_loaded, open_from_marked, open_from_unmarked, finds_closed, if_ok_at, arith, common_steps}
use Rattle.rrd_disk.proofs.storage.FileStorage.load_shared.Goals as goal

pub returns-in-Ok-true-clause-loads : goal.returns-in-Ok-true-clause-loads
returns-in-Ok-true-clause-loads g c =
    let mid = g.D.Disk.events c.is_marked.new.self.bytes.disk in
    let was : c.is_marked.result ≡ Ok true = cc in
    open_from_marked c.read_marked.new.self.found c.read_marked.result (g.D.Disk.events c.args.self.now.bytes.disk) mid (g.D.Disk.events c.read_marked.new.self.bytes.disk)
    c.is_marked.ensures.rests.held c.read_marked.ensures.rests.falls (if_ok_at (λ (b : Bool). TellsMark b mid) c.is_marked.result true was c.is_marked.ensures.ok) c.read_marked.ensures.loads

pub returns-in-Ok-false-clause-loads : goal.returns-in-Ok-false-clause-loads
returns-in-Ok-false-clause-loads g c = grind (arith, common_steps, open_from_unmarked, if_ok_at)

pub returns-in-Err-clause-loads : goal.returns-in-Err-clause-loads
returns-in-Err-clause-loads g c = grind (arith, common_steps, closed_loaded)

pub returns-in-Err-clause-valid : goal.returns-in-Err-clause-valid
returns-in-Err-clause-valid g c = finds_closed c.in-Err.fault None c.in-Err.ensures.err
