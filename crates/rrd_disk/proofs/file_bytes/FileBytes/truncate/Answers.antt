use Rattle.rrd_disk.proofs.Common.{sym, subst, inr, IsSized, IsSizedOrNot, Does, Fails, Stores, seen, failed, moves_fail, seen_moves, then_sync, Syncs, view_of}
use Rattle.rrd_disk.proofs.file_bytes.FileBytes.truncate.Goals as goal

pub returns-in_err-set_len : goal.returns-in_err-set_len
returns-in_err-set_len g c =
    let old = view_of (g.D.Disk.events c.args.self.now.disk) in
    let new = view_of (g.D.Disk.events c.set_len.new.self.disk) in
    failed (λ x. Stores (IsSized 0)) (Fails (IsSizedOrNot 0) (IsSizedOrNot 0)) c.from_residual.result (seen c.args.syncs old) (seen c.args.syncs new) c.from_residual.ensures.0
    (moves_fail (IsSizedOrNot 0) (IsSizedOrNot 0) (seen c.args.syncs old) (seen c.args.syncs new) (seen_moves c.args.syncs (IsSizedOrNot 0) (IsSizedOrNot 0) old new c.in_err-set_len.ensures))

pub returns-in-Ordered : goal.returns-in-Ordered
returns-in-Ordered g c =
    let old = view_of (g.D.Disk.events c.args.self.now.disk) in
    let mid = view_of (g.D.Disk.events c.set_len.new.self.disk) in
    let new = view_of (g.D.Disk.events c.sync.new.self.disk) in
    let P : Syncs → Type 0 = λ y. Does (λ x. Stores (IsSized 0)) (Fails (IsSizedOrNot 0) (IsSizedOrNot 0)) c.sync.result (seen y old) (seen y new) in
    subst P (sym c.in-Ordered.is) (then_sync (IsSized 0) (IsSizedOrNot 0) (IsSizedOrNot 0) c.sync.result old mid new (λ x y sized. inr sized) c.in_ok-set_len.ensures c.sync.ensures)
