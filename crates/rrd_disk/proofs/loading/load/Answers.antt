use Rattle.rrd_disk.proofs.Common.{refl, begins_itself, decodes_front, arith, common_steps}
use Rattle.rrd_disk.proofs.loading.load.Goals as goal

pub returns-in-Some-clause-reads : goal.returns-in-Some-clause-reads
returns-in-Some-clause-reads g c = grind (arith, common_steps)

pub returns-in-Some-clause-front : goal.returns-in-Some-clause-front
returns-in-Some-clause-front g c = decodes_front c.in-Some.read c.front.result.now c.loop.file.front.bytes.items c.front.ensures.items (c.in-Some.ensures.reads c.front.result.now (begins_itself c.front.result.now) (λ whole. refl))

pub returns-in-Err-clause-reads : goal.returns-in-Err-clause-reads
returns-in-Err-clause-reads g c = λ s honest. c.read_fault.ensures.known _

pub returns-clause-reads : goal.returns-clause-reads
returns-clause-reads g c = λ s honest. c.read_fault-2.ensures.known _
