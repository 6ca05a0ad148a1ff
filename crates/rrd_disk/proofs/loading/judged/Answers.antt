use Rattle.rrd_disk.proofs.Common.{reads_judged, arith, common_steps}
use Rattle.rrd_disk.proofs.loading.judged.Goals as goal

pub returns-then-is_whole-clause-reads : goal.returns-then-is_whole-clause-reads
returns-then-is_whole-clause-reads c = grind (arith, common_steps)

pub returns-then-is_judged-clause-reads : goal.returns-then-is_judged-clause-reads
returns-then-is_judged-clause-reads c = grind (arith, common_steps, reads_judged)
