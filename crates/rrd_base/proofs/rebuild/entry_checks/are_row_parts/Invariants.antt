use Rattle.rrd_base.proofs.Common.{◌/◌, ◌%◌, take, AllByRecursion, IsPart, parts_in}
use Rattle.rrd_base.proofs.rebuild.entry_checks.are_row_parts.Given as goal

abbrev pub invariant-loop-prep : goal.invariant-loop-prep
invariant-loop-prep l = AllByRecursion (IsPart l.def.function (l.last / l.validator.step % l.def.steps)) (parts_in (take l.prep-index l.preps))
