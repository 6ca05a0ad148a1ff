use Rattle.rrd_spec.proofs.Newest.{first_tells_none}
use Rattle.rrd_spec.proofs.laws.version_1_has_no_archive_entries.Goals as goal

pub returns : goal.returns
returns c = first_tells_none
