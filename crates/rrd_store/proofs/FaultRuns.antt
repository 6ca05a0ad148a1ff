-- A run that ends with a fault leaves the bytes as they were.
use Rattle.rrd_store.proofs.Names.{◌≡◌, ◌≢◌, ◌∙◌, ℕ, Bool, true, false, List, Option, Some, None, Result, Ok, Err, sym, ap, Keeps, result_err, Stored, Effect, Comes, database_left, fault_left, has_changed, effect, Command, Fault, Line, NoDatabase, Output, Refused, LineFault, IsFileBatch, written, Held, Leaves, ByBatch, ByCommand, ByRequest, FaultChangesNothing, Run, fault_of_batch, EndsBy, RunsAs, RunsFrom, FileBatchEnd, TaskFault}
use Rattle.rrd_store.proofs.Found.{unleft}
use Rattle.rrd_store.specs.declared.faults.TaskFault.TheVariants as task

abbrev end_or : {T : Type 0} → TaskFault → Result T TaskFault → TaskFault
end_or or (Ok x) = or
end_or or (Err fault) = fault

abbrev some_or : TaskFault → Option TaskFault → TaskFault
some_or or None = or
some_or or (Some fault) = fault

module _ (old new : Held) (c0 c1 : Option (List ℕ)) where
  -- the bytes stayed, and nothing was printed unless that failed
  abbrev pub Stayed : TaskFault → Type 0
  Stayed fault = (new ≡ old) × (fault ≢ task.Command Output → Keeps c0 c1)

  same_stayed : (f fault : TaskFault) → f ≡ fault → Stayed f → Stayed fault
  same_stayed f fault e h = (h.0, λ other. h.1 (λ output. other (sym e ∙ output)))

  module _ (f : TaskFault) (n : f ≢ task.CannotWrite) where
    -- ---- a command

    ended_stays : (verdict : Option Fault) (text : List ℕ) (e : Effect) (Moved Same : Type 0) (db : Option Stored) (changed : Bool) (fault : Option Fault)
        → Comes verdict text e Moved Same c0 c1 changed fault → EndsBy fault changed db text (Some old) (Some new) (Err f) → Stayed f
    ended_stays verdict text e Moved Same db true None h k = absurd (n (unleft (Some old) (Some new) db f k))
    ended_stays verdict text e Moved Same db false None h k = (k.2, λ other. absurd (other k.0))
    ended_stays verdict text e Moved Same db changed (Some Output) h k = (k.1, λ other. absurd (other (ap (end_or f) k.0)))
    ended_stays verdict text e Moved Same db changed (Some (Line fault)) h k = (k.1, λ other. h.3)
    ended_stays verdict text e Moved Same db changed (Some (Refused fault)) h k = (k.1, λ other. h.3)
    ended_stays verdict text e Moved Same db changed (Some NoDatabase) h k = (k.1, λ other. h.3)

    from_stays : (command : Command) (start : Result (Option Stored) TaskFault) → RunsFrom command start (Some old) (Some new) c0 c1 (Err f) → Stayed f
    from_stays command (Err fault) h = (h.1, λ other. h.2)
    from_stays command (Ok found) h = ended_stays _ _ (effect command) _ _ (database_left h.0) (has_changed h.0) (fault_left h.0) h.1 h.2

    command_stays : (read : Result Command LineFault) → RunsAs read (Some old) (Some new) c0 c1 (Err f) → Stayed f
    command_stays (Err fault) h = (h.1, λ other. h.2)
    command_stays (Ok command) h = from_stays command h.0 h.2

    -- ---- a batch

    unstored_stays : (last : Option Stored) (unstored : Option TaskFault) → unstored ≡ Some f → Leaves last (Some old) (Some new) (written unstored) → Stayed f
    unstored_stays last None e k = absurd cc
    unstored_stays last (Some fault) e k = absurd (n (sym (ap (some_or f) e) ∙ unleft (Some old) (Some new) last fault k))

    batch_stays : (now numbered : ℕ) (r0 r1 : Option (List ℕ)) (end : Result FileBatchEnd TaskFault) → IsFileBatch now numbered (Some old) (Some new) r0 r1 c0 c1 end → fault_of_batch end ≡ Some f → Stayed f
    batch_stays now numbered r0 r1 (Err fault) h e = (h.1, λ other. h.3)
    batch_stays now numbered r0 r1 (Ok end) h e = unstored_stays h.2.last end.unstored e h.2.left

  command_ends : (read : Result Command LineFault) (end : Result (Unit {0}) TaskFault) (fault : TaskFault) → RunsAs read (Some old) (Some new) c0 c1 end → result_err end ≡ Some fault → fault ≢ task.CannotWrite → Stayed fault
  command_ends read (Ok x) fault h e n = absurd cc
  command_ends read (Err f) fault h e n =
      let same : f ≡ fault = ap (some_or f) e in
      same_stayed f fault same (command_stays f (λ unwritten. n (sym same ∙ unwritten)) read h)

pub fault_changes_nothing : (old : Held) (run : Run) (fault : TaskFault) (new : Held) → FaultChangesNothing old run fault new
fault_changes_nothing old (ByCommand r) fault new h e n = command_ends old new r.out_before r.out_after h.0 r.end fault h.2 e n
fault_changes_nothing old (ByRequest r) fault new h e n = command_ends old new r.out_before r.out_after (Ok r.command) r.end fault h e n
fault_changes_nothing old (ByBatch r) fault new h e n = batch_stays old new r.out_before r.out_after fault n r.now r.numbered r.in_before r.in_after r.end h e
