use Rattle.rrd_change.proofs.Common.{Torn, does_as, broken_stand, log_stand, stopped_broken}
use Rattle.rrd_change.proofs.laws.appends_stand.Goals as goal

pub returns : goal.returns
returns g c =
    let new = c.args.new.now in
    does_as _ _ _ _ c.append.result _ _ (λ x u v s end_of now was is log agrees. log_stand end_of new c.append.new.self v is (s now log agrees))
    (λ u v s end_of now was is log agrees. broken_stand end_of now new v was is (stopped_broken Torn now new v (s now log agrees))) c.append.ensures
