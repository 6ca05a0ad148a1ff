use Rattle.rrd_disk.proofs.Common.{file_end}
use Rattle.rrd_disk.proofs.laws.file_laws.Goals as goal

pub returns : goal.returns
returns c = record {
  begins = c.file_begins.ensures;
  ends = c.ends_are_found.ensures;
  stands = λ now file. c.represented_stand.ensures file_end now file;
}
