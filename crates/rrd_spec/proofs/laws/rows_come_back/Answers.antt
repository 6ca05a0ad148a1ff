use Rattle.rrd_spec.proofs.SampleLemmas.{update_undone}
use Rattle.rrd_spec.proofs.laws.rows_come_back.Goals as goal

pub returns : goal.returns
returns c = λ base index archive samples is. update_undone base index archive samples is
