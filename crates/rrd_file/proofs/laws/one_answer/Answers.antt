use Rattle.rrd_file.proofs.Common.{one_answer}
use Rattle.rrd_file.proofs.laws.one_answer.Goals as goal

pub returns : goal.returns
returns c = one_answer c.databases_are_filed_once.ensures.databases
