use Rattle.rrd_change.proofs.Common.{ArePut, AreWholeOrNot, IsTorn, database_mark, does_as, not_unmarked, seen_does}
use Rattle.rrd_change.proofs.Marking.{unmarked}
use Rattle.rrd_change.proofs.log.unmark.Goals as goal

pub returns : goal.returns
returns g c =
    let file = g.F.Bytes.view c.args.file.now in
    let after = g.F.Bytes.view c.write_whole.new.self in
    does_as _ _ _ _ c.write_whole.result _ _ (λ x u v s old. unmarked old u v s) (λ u v s old. not_unmarked old u v s)
    (seen_does c.args.syncs (ArePut 0 database_mark) (AreWholeOrNot 0 database_mark) (IsTorn 0 database_mark) c.write_whole.result file after c.write_whole.ensures)
