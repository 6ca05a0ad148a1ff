use Rattle.rrd_base.proofs.Common.{◌≡◌, true, take, list_all, DsDef, value_for, template_of, is_admitted}
use Rattle.rrd_base.proofs.update.are_admitted.Given as goal

abbrev pub invariant-loop-number : goal.invariant-loop-number
invariant-loop-number l = list_all (λ (source : DsDef). is_admitted source (value_for (template_of l.sources l.columns.template.now) l.values source)) (take l.number l.sources) ≡ true
