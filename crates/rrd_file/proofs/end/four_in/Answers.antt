use Rattle.rrd_file.proofs.Common.{◌∙◌, ap, sym, four_in, four_first, no_four}
use Rattle.rrd_file.proofs.end.four_in.Goals as goal

pub returns-then-bytes-lt4-clause-number : goal.returns-then-bytes-lt4-clause-number
returns-then-bytes-lt4-clause-number c = sym (no_four c.args.bytes.now c.if-bytes-lt4.true)

pub returns-clause-number : goal.returns-clause-number
returns-clause-number c = sym (ap four_in c.four_of.ensures.spelled ∙ four_first _ _ c.four_of.ensures.small)
