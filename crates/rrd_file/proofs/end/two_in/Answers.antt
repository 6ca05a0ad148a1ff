use Rattle.rrd_file.proofs.Common.{◌∙◌, ap, sym, two_in, no_two, two_first}
use Rattle.rrd_file.proofs.end.two_in.Goals as goal

pub returns-then-bytes-lt2-clause-number : goal.returns-then-bytes-lt2-clause-number
returns-then-bytes-lt2-clause-number c = sym (no_two c.args.bytes.now c.if-bytes-lt2.true)

pub returns-clause-number : goal.returns-clause-number
returns-clause-number c = sym (ap two_in c.two_of.ensures.spelled ∙ two_first _ _ c.two_of.ensures.small)
