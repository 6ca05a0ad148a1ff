use Rattle.rrd_disk.proofs.Common.{records_exist}
use Rattle.rrd_disk.proofs.laws.honest_records_exist.Goals as goal

pub returns : goal.returns
returns c = records_exist
