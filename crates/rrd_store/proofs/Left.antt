-- What a write left is said by its fault alone.
use Rattle.std.proofs.Common.{◌≡◌, Option, Some, None, Result, Ok, Err}
use Rattle.std.specs.Result.{result_err}
use Rattle.rrd_spec.specs.Journal.Survivors.{Stored}
use Rattle.rrd_store.specs.Batch.{written}
use Rattle.rrd_store.specs.Storages.{Held, Leaves}
use Rattle.rrd_store.specs.declared.faults.TaskFault.{TaskFault}
use Rattle.rrd_store.specs.declared.faults.TaskFault.TheVariants.{Command, Stream, File, CannotOpen, CannotWrite}

done_leaves : {T : Type 0} (database : Option Stored) (old new : Option Held) (x : T)
    → Leaves database old new (Ok x) → Leaves database old new (Ok (tt {0}))
done_leaves None old new x p = p
done_leaves (Some d) old new x p = p

failed_leaves : (T : Type 0) (database : Option Stored) (old new : Option Held) (f : TaskFault)
    → Leaves {T = T} database old new (Err f) → Leaves {T = Unit {0}} database old new (Err f)
failed_leaves T None old new f p = p
failed_leaves T (Some d) old new CannotWrite p = p
failed_leaves T (Some d) old new CannotOpen p = p
failed_leaves T (Some d) old new (File fault) p = p
failed_leaves T (Some d) old new (Command fault) p = p
failed_leaves T (Some d) old new (Stream fault) p = p

pub left_by : {T : Type 0} (database : Option Stored) (old new : Option Held) (end : Result T TaskFault)
    (fault : Option TaskFault)
    → fault ≡ result_err end → Leaves database old new end → Leaves database old new (written fault)
left_by database old new (Ok x) fault e p = rw e (done_leaves database old new x p)
left_by {T} database old new (Err f) fault e p = rw e (failed_leaves T database old new f p)
