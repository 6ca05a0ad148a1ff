use Rattle.rrd_change.proofs.Common.{length, AreAny, ArePut, IsCut, seen, put_cut, then_sync}
use Rattle.rrd_change.proofs.writing.write_and_sync.Goals as goal

pub returns : goal.returns
returns g c =
    let at = c.args.at in
    let bytes = c.args.bytes.now in
    let syncs = c.args.syncs in
    then_sync (ArePut at bytes) (IsCut at bytes) (AreAny at (length bytes)) c.flush.result (seen syncs (g.F.Bytes.view c.args.file.now)) (seen syncs (g.F.Bytes.view c.write_all.new.file))
    (seen syncs (g.F.Bytes.view c.flush.new.file)) (λ x y put. put_cut at bytes x y c.requires.some put) c.in_ok-write_all.ensures c.flush.ensures
