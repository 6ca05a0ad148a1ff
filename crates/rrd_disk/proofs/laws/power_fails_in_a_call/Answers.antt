use Rattle.rrd_disk.proofs.Common.{interrupted_makes, interrupted_survives}
use Rattle.rrd_disk.proofs.laws.power_fails_in_a_call.Goals as goal

pub returns : goal.returns
returns c = record {
  power = interrupted_survives c.file_laws.ensures;
  making = λ missed events run. interrupted_makes c.file_laws.ensures run missed events;
}
