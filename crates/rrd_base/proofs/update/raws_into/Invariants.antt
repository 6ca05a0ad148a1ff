use Rattle.rrd_base.proofs.Common.{◌≡◌, ◌++◌, map, take, drop, DsDef, raw_of, value_for, template_of}
use Rattle.rrd_base.proofs.update.raws_into.Given as goal

abbrev pub invariant-loop-number : goal.invariant-loop-number
invariant-loop-number l = l.raws ≡ map (λ (source : DsDef). raw_of source.kind (value_for (template_of l.sources l.columns.template.now) l.values source)) (take l.number l.sources) ++ drop l.number l.fn.raws
