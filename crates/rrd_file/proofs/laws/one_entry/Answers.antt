use Rattle.rrd_file.proofs.Common.{one_entry}
use Rattle.rrd_file.proofs.laws.one_entry.Goals as goal

pub returns : goal.returns
returns c = one_entry
