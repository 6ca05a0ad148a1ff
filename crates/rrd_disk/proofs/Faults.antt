-- The faults of a load: they are about the place, and about no command and no stream.
use Rattle.rrd_disk.proofs.Names.{None, Err, IsOfPlace, FindsOne, TaskFault}
use Rattle.rrd_store.specs.declared.faults.TaskFault.TheVariants as task

pub of_place : (fault : TaskFault) → FindsOne None (Err fault) → IsOfPlace fault
of_place (task.File fault) f = tt
of_place task.CannotOpen f = tt
of_place _ f = absurd f
