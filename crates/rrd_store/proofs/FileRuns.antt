-- A run over the file of a state leads to the file of the state that the definitions compute.
use Rattle.rrd_store.proofs.Names.{◌≡◌, ◌∙◌, ℕ, List, Option, Some, None, Result, Ok, Err, ap, sym, refl, subst, result_err, Stored, layout_in, IsValidIn, StandsFor, stored_of, IsFileBatch, RunsLines, written, Bytes, Held, Missing, IsSingle, RunsAs, AnswersLines, BatchRun, ByBatch, ByCommand, ByRequest, CommandRun, Computes, Filing, Holds, IsFirst, MayStop, RequestRun, Run, fault_of, fault_of_batch, first_of, as_written, begun, database_in, state_in, FileBatchEnd, TaskFault}
use Rattle.rrd_store.proofs.CommandRuns.{command_computed}
use Rattle.rrd_store.proofs.Found.{IsLeft, Reading, file_layout, found_is, left_after, may_stop, stays_left, valid_held}
use Rattle.rrd_store.proofs.ValidStates.{Staying, first_valid, is_kept, kept_stands, run_valid}
use Rattle.rrd_store.specs.declared.faults.TaskFault.TheVariants as task

-- ---- a batch

result_err_written : (unstored : Option TaskFault) → result_err (written unstored) ≡ unstored
result_err_written None = refl
result_err_written (Some fault) = refl

module _ (stays : Staying) (laws : Reading) (old new : Held) (s : Option Filing) (held : Holds old s) (now numbered : ℕ) (r0 r1 c0 c1 : Option (List ℕ)) where
  lines_computed : (found : Option Stored) (end : FileBatchEnd) → found ≡ database_in s → RunsLines now numbered found (Some old) (Some new) r0 r1 c0 c1 end
      → (s1 : Option Filing) × AnswersLines now numbered s s1 r0 r1 c0 c1 (Ok end) × IsLeft old new s1 end.unstored
  lines_computed found end same h =
      let valid = valid_held laws old s held in
      let state = state_in s in
      let ran = h.runs state (subst (λ (d : Option Stored). StandsFor d state) (sym same) (kept_stands (old ≡ Missing) state valid)) in
      let after = run_valid stays (old ≡ Missing) now ran.0 r1 state ran.2 ran.4 c0 c1 end.stream ran.6 valid in
      let left = left_after old new h.last ran.2 (written end.unstored) ran.3 after h.left in
      (as_written ran.2, (ran.0, ran.1, ran.2, ran.4, ran.5, ran.6, refl), subst (λ (f : Option TaskFault). IsLeft old new (as_written ran.2) f) (result_err_written end.unstored) left)

stopped_left : (old new : Held) (s : Option Filing) (fault : TaskFault) → MayStop s fault → new ≡ old → IsLeft old new s (Some fault)
stopped_left old new s (task.File fault) m k = stays_left old new s (task.File fault) k tt
stopped_left old new s task.CannotOpen m k = stays_left old new s task.CannotOpen k tt
stopped_left old new s task.CannotWrite m k = absurd m
stopped_left old new s (task.Command fault) m k = absurd m
stopped_left old new s (task.Stream fault) m k = absurd m

batch_computed : (stays : Staying) (laws : Reading) (old new : Held) (s : Option Filing) → Holds old s → (now numbered : ℕ) (r0 r1 c0 c1 : Option (List ℕ)) (end : Result FileBatchEnd TaskFault)
    → IsFileBatch now numbered (Some old) (Some new) r0 r1 c0 c1 end
    → (s1 : Option Filing) × AnswersLines now numbered s s1 r0 r1 c0 c1 end × IsLeft old new s1 (fault_of_batch end)
batch_computed stays laws old new s held now numbered r0 r1 c0 c1 (Err fault) h =
    let m = may_stop laws old s fault held h.0 in
    (s, (m, (refl, h.3), h.2), stopped_left old new s fault m h.1)
batch_computed stays laws old new s held now numbered r0 r1 c0 c1 (Ok end) h =
    lines_computed stays laws old new s held now numbered r0 r1 c0 c1 h.0 end (found_is laws old s h.0 held h.1) h.2

-- ---- any run

-- the run leads from this state to another, and the storage has what that leaves
abbrev pub LeadsIn : Held → Held → Option Filing → Run → Type 0
LeadsIn old new s run = (s1 : Option Filing) × Computes s run s1 × IsLeft old new s1 (fault_of run)

module _ (stays : Staying) (laws : Reading) where
  -- over the file of a state
  pub command_leads : (old new : Held) (s : Option Filing) (r : CommandRun) → Holds old s
      → IsSingle r.words r.now (Some old) (Some new) r.out_before r.out_after r.end → LeadsIn old new s (ByCommand r)
  command_leads old new s r held h =
      let came = command_computed stays laws old s held new h.0 r.out_before r.out_after r.end h.2 in
      (came.0, (h.0, h.1, came.1), came.2)

  pub request_leads : (old new : Held) (s : Option Filing) (r : RequestRun) → Holds old s
      → RunsAs (Ok r.command) (Some old) (Some new) r.out_before r.out_after r.end → LeadsIn old new s (ByRequest r)
  request_leads old new s r held h = command_computed stays laws old s held new (Ok r.command) r.out_before r.out_after r.end h

  pub batch_leads : (old new : Held) (s : Option Filing) (r : BatchRun) → Holds old s
      → IsFileBatch r.now r.numbered (Some old) (Some new) r.in_before r.in_after r.out_before r.out_after r.end → LeadsIn old new s (ByBatch r)
  batch_leads old new s r held h = batch_computed stays laws old new s held r.now r.numbered r.in_before r.in_after r.out_before r.out_after r.end h

  -- the first file
  pub first_held : (held : Held) (first : Option Stored) (is : IsFirst held first) → Holds held (first_of held first is)
  first_held held None h = h
  first_held held (Some d) h =
      let file = h.2 in
      let valid = laws.within file.version d.content d.journal file.valid in
      let stands = stays.begins d.content d.journal valid in
      let same : d ≡ stored_of (begun d) = is_kept (begun d) d stands in
      (h.1 ∙ ap (λ (b : List ℕ). Bytes b) (subst (λ (k : Stored). h.0 ≡ layout_in file.version k) same (file_layout laws h.0 d file)), ((first_valid stays d.content d.journal valid).0, subst (λ (k : Stored). IsValidIn file.version k) same file.valid))
