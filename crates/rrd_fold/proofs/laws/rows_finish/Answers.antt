use Rattle.rrd_fold.proofs.Common.{row_finishes, part}
use Rattle.rrd_fold.proofs.laws.rows_finish.Goals as goal

pub returns : goal.returns
unfolding part
returns c = λ function xff steps row some small. row_finishes function xff steps row.known row.value some small
