use Rattle.rrd_change.proofs.Common.{does_as, either_stand, rest_stands, stopped_either}
use Rattle.rrd_change.proofs.laws.changes_stand.Goals as goal

pub returns : goal.returns
returns g c =
    let new = c.args.new.now in
    does_as _ _ _ _ c.replace.result _ _ (λ x u v s end_of old was is began agrees rest. rest_stands end_of new v is (s old began agrees rest))
    (λ u v s end_of old was is began agrees rest. either_stand end_of old new v was is (stopped_either old new v (s old began agrees rest))) c.replace.ensures
