use Rattle.rrd_change.proofs.Common.{does_as, marked, not_marked}
use Rattle.rrd_change.proofs.log.mark.Goals as goal

pub returns : goal.returns
returns g c = does_as _ _ _ _ c.mark_and_sync.result _ _ (λ x u v s old. marked old u v s) (λ u v s old. not_marked old u v s) c.mark_and_sync.ensures
