use Rattle.rrd_change.proofs.Common.{Whole, does_as, all_stand, marked_stand, left_one}
use Rattle.rrd_change.proofs.laws.settled_logs_stand.Goals as goal

pub returns : goal.returns
returns g c =
    let new = c.args.new.now in
    does_as _ _ _ _ c.settle.result _ _ (λ x u v s end_of whole log. marked_stand end_of new v whole (s log)) (λ u v s end_of whole log. all_stand end_of new v whole (left_one new v (s Whole new log))) c.settle.ensures
